-- What each kind of value converts to, by its line in the definitions; and that a value of a kind which a conversion does not name is refused by 1,
-- with its type as the present one.
-- Assumes nothing.
use mathlib.Core.Path.{◌≡◌, refl}
use mathlib.Core.Bool.{Bool, false, not}
use mathlib.Core.List.{List, [], ◌∷◌}
use Prim.Native.Nat.{ℕ}
use lib.Dec.{eqb}
use denote.Enum.Declared.{tag_of}
use types.Run.{OneOf, miss}
use Rattle.types.specs.Values.{type_of}
use Rattle.types.specs.declared.value.AmlType.{AmlType}
use Rattle.types.specs.declared.value.AmlType.TheVariants as T
use Rattle.types.specs.declared.value.AmlValue.{AmlValue}
use Rattle.types.specs.declared.value.AmlValue.TheVariants as Val
use Rattle.types.specs.declared.value.FieldUnit.{FieldUnit}
use Rattle.types.specs.contracts.value.AmlValue.{the_type}
use Rattle.value.specs.Conversions.{Held, boolean, integer, string, buffer, buffer_field, field_unit, kind, held_by, truth_number, buffer_number, buffer_field_content, field_unit_content, no, content_integer, to_integer, to_bool, these, none, content_buffer, to_buffer, content_string, to_string, same_type}
use Rattle.value.specs.Integers.{text_answer, text_number, parsed}
use Rattle.std.specs.Prelude.{Ok, Err}

-- ---- to integer
pub integer_of_boolean : (b : Bool) → to_integer (boolean b) ≡ Ok (truth_number b)
unfolding to_integer
integer_of_boolean b = refl

pub integer_of_integer : (n : ℕ) → to_integer (integer n) ≡ Ok n
unfolding to_integer
integer_of_integer n = refl

pub integer_of_string : (s : List ℕ) → to_integer (string s) ≡ Err (no T.String T.Integer)
unfolding to_integer
integer_of_string s = refl

pub integer_of_buffer : (s : List ℕ) → to_integer (buffer s) ≡ Ok (buffer_number s)
unfolding to_integer
integer_of_buffer s = refl

pub integer_of_buffer_field : (o n : ℕ) (s : List ℕ) → to_integer (buffer_field o n s) ≡ content_integer (buffer_field_content o n s)
unfolding to_integer
integer_of_buffer_field o n s = refl

pub integer_of_field_unit : (f : FieldUnit) (s : List ℕ) → to_integer (field_unit f s) ≡ content_integer (field_unit_content f s)
unfolding to_integer
integer_of_field_unit f s = refl

pub integer_of_kind : (t : AmlType) → to_integer (kind t) ≡ Err (no t T.Integer)
unfolding to_integer
integer_of_kind t = refl

-- ---- to bool
pub bool_of_boolean : (b : Bool) → to_bool (boolean b) ≡ Ok b
unfolding to_bool
bool_of_boolean b = refl

pub bool_of_integer : (n : ℕ) → to_bool (integer n) ≡ Ok (not (eqb n 0))
unfolding to_bool
bool_of_integer n = refl

-- ---- to buffer
pub buffer_of_boolean : (b : Bool) → to_buffer (boolean b) ≡ none (no T.Integer T.Buffer)
unfolding to_buffer
buffer_of_boolean b = refl

pub buffer_of_integer : (n : ℕ) → to_buffer (integer n) ≡ none (no T.Integer T.Buffer)
unfolding to_buffer
buffer_of_integer n = refl

pub buffer_of_string : (s : List ℕ) → to_buffer (string s) ≡ none (no T.String T.Buffer)
unfolding to_buffer
buffer_of_string s = refl

pub buffer_of_buffer : (s : List ℕ) → to_buffer (buffer s) ≡ these s
unfolding to_buffer
buffer_of_buffer s = refl

pub buffer_of_buffer_field : (o n : ℕ) (s : List ℕ) → to_buffer (buffer_field o n s) ≡ content_buffer (buffer_field_content o n s)
unfolding to_buffer
buffer_of_buffer_field o n s = refl

pub buffer_of_field_unit : (f : FieldUnit) (s : List ℕ) → to_buffer (field_unit f s) ≡ content_buffer (field_unit_content f s)
unfolding to_buffer
buffer_of_field_unit f s = refl

pub buffer_of_kind : (t : AmlType) → to_buffer (kind t) ≡ none (no t T.Buffer)
unfolding to_buffer
buffer_of_kind t = refl

-- ---- to string
pub string_of_boolean : (b : Bool) → to_string (boolean b) ≡ none (no T.Integer T.String)
unfolding to_string
string_of_boolean b = refl

pub string_of_integer : (n : ℕ) → to_string (integer n) ≡ none (no T.Integer T.String)
unfolding to_string
string_of_integer n = refl

pub string_of_string : (s : List ℕ) → to_string (string s) ≡ these s
unfolding to_string
string_of_string s = refl

pub string_of_buffer : (s : List ℕ) → to_string (buffer s) ≡ none (no T.Buffer T.String)
unfolding to_string
string_of_buffer s = refl

pub string_of_buffer_field : (o n : ℕ) (s : List ℕ) → to_string (buffer_field o n s) ≡ none (no T.BufferField T.String)
unfolding to_string
string_of_buffer_field o n s = refl

pub string_of_field_unit : (f : FieldUnit) (s : List ℕ) → to_string (field_unit f s) ≡ content_string (field_unit_content f s)
unfolding to_string
string_of_field_unit f s = refl

pub string_of_kind : (t : AmlType) → to_string (kind t) ≡ none (no t T.String)
unfolding to_string
string_of_kind t = refl

-- ---- ToInteger
pub parsed_integer : (n : ℕ) → parsed (integer n) ≡ Ok n
unfolding parsed
parsed_integer n = refl

pub parsed_string : (s : List ℕ) → parsed (string s) ≡ text_answer (text_number s)
unfolding parsed
parsed_string s = refl

pub parsed_buffer : (s : List ℕ) → parsed (buffer s) ≡ Ok (buffer_number s)
unfolding parsed
parsed_buffer s = refl

-- ---- the kinds that a conversion does not name

-- the places of the kinds in the enum: Boolean, Integer, String, Buffer, BufferField, Field, then the contentless ones
module _ {A : Type 0} (Met : AmlType → ℕ → Type 0) (f : Held → A) (refused : AmlType → A) (s : List ℕ) where
  -- a conversion that refuses what is met, by its type and place, refuses each such value by its type
  by_kind : ((b : Bool) → Met T.Integer 0 → f (boolean b) ≡ refused T.Integer)
      → ((n : ℕ) → Met T.Integer 1 → f (integer n) ≡ refused T.Integer)
      → (Met T.String 2 → f (string s) ≡ refused T.String)
      → (Met T.Buffer 3 → f (buffer s) ≡ refused T.Buffer)
      → ((o n : ℕ) → Met T.BufferField 4 → f (buffer_field o n s) ≡ refused T.BufferField)
      → ((u : FieldUnit) → Met T.FieldUnit 5 → f (field_unit u s) ≡ refused T.FieldUnit)
      → ((t : AmlType) → f (kind t) ≡ refused t)
      → (v : AmlValue) → Met (type_of v) (tag_of the_type v) → f (held_by v s) ≡ refused (type_of v)
  by_kind p0 p1 p2 p3 p4 p5 p6 (Val.Boolean b) k = p0 b k
  by_kind p0 p1 p2 p3 p4 p5 p6 (Val.Integer n) k = p1 n k
  by_kind p0 p1 p2 p3 p4 p5 p6 Val.String k = p2 k
  by_kind p0 p1 p2 p3 p4 p5 p6 Val.Buffer k = p3 k
  by_kind p0 p1 p2 p3 p4 p5 p6 (Val.BufferField o n) k = p4 o n k
  by_kind p0 p1 p2 p3 p4 p5 p6 (Val.Field u) k = p5 u k
  by_kind p0 p1 p2 p3 p4 p5 p6 Val.OpRegion k = p6 T.OpRegion
  by_kind p0 p1 p2 p3 p4 p5 p6 Val.Device k = p6 T.Device
  by_kind p0 p1 p2 p3 p4 p5 p6 Val.Method k = p6 T.Method
  by_kind p0 p1 p2 p3 p4 p5 p6 Val.Processor k = p6 T.Processor
  by_kind p0 p1 p2 p3 p4 p5 p6 Val.Mutex k = p6 T.Mutex
  by_kind p0 p1 p2 p3 p4 p5 p6 Val.Package k = p6 T.Package
  by_kind p0 p1 p2 p3 p4 p5 p6 Val.PowerResource k = p6 T.PowerResource
  by_kind p0 p1 p2 p3 p4 p5 p6 Val.ThermalZone k = p6 T.ThermalZone

-- all but the two of type Integer
abbrev pub not_bool : List ℕ
not_bool = 2 ∷ 3 ∷ 4 ∷ 5 ∷ 6 ∷ 7 ∷ 8 ∷ 9 ∷ 10 ∷ 11 ∷ 12 ∷ 13 ∷ []

-- all but the first, Boolean; all but the second, Integer
abbrev no_boolean : List ℕ
no_boolean = 1 ∷ not_bool

abbrev no_integer : List ℕ
no_integer = 0 ∷ not_bool

pub no_number : (v : AmlValue) → OneOf no_integer (tag_of the_type v) → OneOf no_boolean (tag_of the_type v) → same_type (type_of v) T.Integer ≡ false
no_number (Val.Boolean b) k l = absurd (miss no_boolean 0 tt l)
no_number (Val.Integer n) k l = absurd (miss no_integer 1 tt k)
no_number Val.String k l = refl
no_number Val.Buffer k l = refl
no_number (Val.BufferField o n) k l = refl
no_number (Val.Field u) k l = refl
no_number Val.OpRegion k l = refl
no_number Val.Device k l = refl
no_number Val.Method k l = refl
no_number Val.Processor k l = refl
no_number Val.Mutex k l = refl
no_number Val.Package k l = refl
no_number Val.PowerResource k l = refl
no_number Val.ThermalZone k l = refl

-- all but Buffer, BufferField and Field: no bytes are read of them
abbrev pub unread : List ℕ
unread = 0 ∷ 1 ∷ 2 ∷ 6 ∷ 7 ∷ 8 ∷ 9 ∷ 10 ∷ 11 ∷ 12 ∷ 13 ∷ []

abbrev pub not_string : List ℕ
not_string = 0 ∷ 1 ∷ 3 ∷ 4 ∷ 6 ∷ 7 ∷ 8 ∷ 9 ∷ 10 ∷ 11 ∷ 12 ∷ 13 ∷ []

abbrev pub not_parsed : List ℕ
not_parsed = 0 ∷ 4 ∷ 5 ∷ 6 ∷ 7 ∷ 8 ∷ 9 ∷ 10 ∷ 11 ∷ 12 ∷ 13 ∷ []

module _ (v : AmlValue) (s : List ℕ) where
  pub no_integer_lem : OneOf unread (tag_of the_type v) → same_type (type_of v) T.Integer ≡ false → to_integer (held_by v s) ≡ Err (no (type_of v) T.Integer)
  unfolding to_integer
  no_integer_lem k d =
      by_kind (λ t k. OneOf unread k × (same_type t T.Integer ≡ false)) to_integer (λ t. Err (no t T.Integer)) s
      (λ b k. cc k.1) (λ n k. cc k.1) (λ k. refl) (λ k. absurd (miss unread 3 tt k.0)) (λ o n k. absurd (miss unread 4 tt k.0))
      (λ u k. absurd (miss unread 5 tt k.0)) (λ t. refl) v (k, d)

  pub no_bool : OneOf not_bool (tag_of the_type v) → to_bool (held_by v s) ≡ Err (no (type_of v) T.Integer)
  unfolding to_bool
  no_bool =
      by_kind (λ t. OneOf not_bool) to_bool (λ t. Err (no t T.Integer)) s (λ b k. absurd (miss not_bool 0 tt k)) (λ n k. absurd (miss not_bool 1 tt k))
      (λ k. refl) (λ k. refl) (λ o n k. refl) (λ u k. refl) (λ t. refl) v

  pub no_buffer : OneOf unread (tag_of the_type v) → to_buffer (held_by v s) ≡ none (no (type_of v) T.Buffer)
  unfolding to_buffer
  no_buffer =
      by_kind (λ t. OneOf unread) to_buffer (λ t. none (no t T.Buffer)) s (λ b k. refl) (λ n k. refl) (λ k. refl) (λ k. absurd (miss unread 3 tt k))
      (λ o n k. absurd (miss unread 4 tt k)) (λ u k. absurd (miss unread 5 tt k)) (λ t. refl) v

  pub no_string : OneOf not_string (tag_of the_type v) → to_string (held_by v s) ≡ none (no (type_of v) T.String)
  unfolding to_string
  no_string =
      by_kind (λ t. OneOf not_string) to_string (λ t. none (no t T.String)) s (λ b k. refl) (λ n k. refl) (λ k. absurd (miss not_string 2 tt k)) (λ k. refl)
      (λ o n k. refl) (λ u k. absurd (miss not_string 5 tt k)) (λ t. refl) v

  pub no_parsed : OneOf not_parsed (tag_of the_type v) → parsed (held_by v s) ≡ Err (no (type_of v) T.Integer)
  unfolding parsed
  no_parsed =
      by_kind (λ t. OneOf not_parsed) parsed (λ t. Err (no t T.Integer)) s (λ b k. refl) (λ n k. absurd (miss not_parsed 1 tt k)) (λ k. absurd (miss not_parsed 2 tt k))
      (λ k. absurd (miss not_parsed 3 tt k)) (λ o n k. refl) (λ u k. refl) (λ t. refl) v
