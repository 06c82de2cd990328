-- A value taken to a named type: itself where the type's number is its own, an Integer or a Buffer by their conversions, and 1 for every other name.
-- Assumes nothing.
use mathlib.Core.Path.{◌≡◌, refl, sym, ap, ◌∙◌}
use mathlib.Core.Bool.{false, true}
use mathlib.Core.List.{List, [], ◌∷◌}
use Prim.Native.Nat.{ℕ, ◌≤◌}
use lib.ListN.{length}
use denote.Enum.Declared.{tag_of}
use denote.Enum.Bare.{sameb, same_true, same_false}
use types.Run.{OneOf, miss}
use borrow.Author.Tests.{eq-eqb, ne_eqb}
use Rattle.types.specs.Values.{type_of, type_number_of, type_named}
use Rattle.types.specs.declared.value.AmlType.{AmlType}
use Rattle.types.specs.declared.value.AmlType.TheVariants as T
use Rattle.types.specs.declared.value.AmlValue.{AmlValue}
use Rattle.types.specs.contracts.value.AmlType.{the_type}
use Rattle.value.specs.Conversions.{Held, held_by, no, as_integer, as_buffer, Given, given, GivenType, given_type, integer_type, length_type, to_type, same_type, as_type}
use Rattle.std.specs.Prelude.{Result, Ok, Err}
use Rattle.types.specs.declared.refusal.Refusal.{Refusal}
use Rattle.value.specs.declared.convert.Converted.TheVariants as Co
use Rattle.value.proofs.Lent.{as_integer_short, as_buffer_short, as_type_short}

-- the places in the enum of the types that nothing converts to: all but 0 Buffer, 4 Integer
abbrev pub not_named : List ℕ
not_named = 1 ∷ 2 ∷ 3 ∷ 5 ∷ 6 ∷ 7 ∷ 8 ∷ 9 ∷ 10 ∷ 11 ∷ 12 ∷ []

not_named_lem : (present wanted : AmlType) (h : Held) (out : List ℕ) → OneOf not_named (tag_of the_type wanted)
    → to_type present wanted h out ≡ given_type (Err (no present wanted)) out
not_named_lem present T.Buffer h out k = absurd (miss not_named 0 tt k)
not_named_lem present T.Integer h out k = absurd (miss not_named 4 tt k)
not_named_lem present T.BufferField h out k = refl
not_named_lem present T.FieldUnit h out k = refl
not_named_lem present T.Device h out k = refl
not_named_lem present T.Method h out k = refl
not_named_lem present T.Mutex h out k = refl
not_named_lem present T.OpRegion h out k = refl
not_named_lem present T.Package h out k = refl
not_named_lem present T.PowerResource h out k = refl
not_named_lem present T.Processor h out k = refl
not_named_lem present T.String h out k = refl
not_named_lem present T.ThermalZone h out k = refl

-- the type of a type's number is that type, so types that differ have numbers that differ
back : (t : AmlType) → type_named (type_number_of t) ≡ t
unfolding type_named
back T.Buffer = refl
back T.BufferField = refl
back T.FieldUnit = refl
back T.Device = refl
back T.Integer = refl
back T.Method = refl
back T.Mutex = refl
back T.OpRegion = refl
back T.Package = refl
back T.PowerResource = refl
back T.Processor = refl
back T.String = refl
back T.ThermalZone = refl

pub alike : (a b : AmlType) → sameb the_type a b ≡ true → type_number_of a ≡ type_number_of b
alike a b e = ap type_number_of (same_true the_type _ a b e)

pub unlike : (a b : AmlType) → sameb the_type a b ≡ false → type_number_of a ≡ type_number_of b → ⊥
unlike a b e n = same_false the_type a b e (sym (back a) ∙ ap type_named n ∙ back b)

-- to Integer: so the value is none
pub no_integer_yet : (v : AmlValue) (wanted : AmlType) → (type_number_of (type_of v) ≡ type_number_of wanted → ⊥) → wanted ≡ T.Integer → same_type (type_of v) T.Integer ≡ false
no_integer_yet v wanted d e = ne_eqb (type_number_of (type_of v)) (type_number_of T.Integer) (λ q. d (q ∙ sym (ap type_number_of e)))

abbrev length_given : Given → GivenType
length_given g = given_type (length_type g.answer) g.out

module _ (v : AmlValue) (s : List ℕ) (l : length s ≤ 65536) (wanted : AmlType) (out : List ℕ) where
  pub type_same : type_number_of (type_of v) ≡ type_number_of wanted → as_type v s wanted out ≡ given_type (Ok Co.Same) out
  type_same e = rw (as_type_short v s l wanted out, eq-eqb (type_number_of (type_of v)) (type_number_of wanted) e)

  module _ (d : type_number_of (type_of v) ≡ type_number_of wanted → ⊥) where
    type_other : as_type v s wanted out ≡ to_type (type_of v) wanted (held_by v s) out
    type_other = rw (as_type_short v s l wanted out, ne_eqb (type_number_of (type_of v)) (type_number_of wanted) d)

    pub type_integer : wanted ≡ T.Integer → as_type v s wanted out ≡ given_type (integer_type (as_integer v s)) out
    type_integer e = type_other ∙ rw (e, as_integer_short v s l)

    pub type_buffer : wanted ≡ T.Buffer → (a : Result ℕ Refusal) (t : List ℕ) → given a t ≡ as_buffer v s out → given_type (length_type a) t ≡ as_type v s wanted out
    type_buffer e a t g = ap length_given (g ∙ as_buffer_short v s l out) ∙ sym (type_other ∙ rw e)

    pub type_none : OneOf not_named (tag_of the_type wanted) → as_type v s wanted out ≡ given_type (Err (no (type_of v) wanted)) out
    type_none k = type_other ∙ not_named_lem (type_of v) wanted (held_by v s) out k
