-- Texts written into an output, one behind the other: what is written is their concatenation, and the next place is behind all of them.
-- Assumes nothing.
use mathlib.Core.Path.{◌≡◌, refl, sym, ◌∙◌}
use mathlib.Core.List.{List, [], ◌∷◌, ◌++◌}
use Prim.Native.Nat.{ℕ, ◌+◌, ◌≤◌}
use native.Mathlib.Omega.{arith}
use lib.ListN.{length, length-append}
use Rattle.types.specs.Refusals.{number_of}
use Rattle.types.specs.declared.refusal.Refusal.{Refusal}
use Rattle.text.specs.Written.{decimal_text, decimal_digits, hex_text}
use Rattle.text.proofs.Over.{over_append}
use Rattle.text.proofs.Decimals.{decimal_most}
use Rattle.text.proofs.Hexes.{hex_length}
use Rattle.script.specs.Ops.{shown, refused_by}
use Rattle.script.specs.Runs.{status_text, value_text, status_line, answer_lines}
use Rattle.script.specs.Steps.{Puts, Tells}
use Rattle.script.specs.declared.written.Answers.{Answers}

module _ (a b c : Answers) (l m : List ℕ) where
  pub puts_puts : Puts a l b → Puts b m c → Puts a (l ++ m) c
  puts_puts f g =
      record {
        same = g.same ∙ f.same;
        put =
            record {
              bytes = g.put.bytes ∙ rw (f.put.bytes, f.put.place) (sym (over_append a.out.now a.at l m));
              place = omega (arith, f.put.place, g.put.place, length-append l m);
            };
      }

-- ---- `status=`, a number, `value=`
pub status_puts : (a b c d : Answers) (n : ℕ) → Puts a status_text b → Puts b (decimal_text n) c → Puts c value_text d → Puts a (status_line n) d × (d.at ≤ a.at + 34)
unfolding status_line
status_puts a b c d n f g h = (
  puts_puts a b d status_text (decimal_text n ++ value_text) f (puts_puts b c d (decimal_text n) value_text g h),
  omega (arith, decimal_most n, f.put.place, g.put.place, h.put.place),
)

-- ---- an answer: its status, its text, a line feed
module _ (a b : Answers) where
  pub refusal_puts : (c : Answers) (r : Refusal) (n : ℕ) → n ≡ number_of r → Puts a (status_line n) b × (b.at ≤ a.at + 34) → Puts b (45 ∷ 10 ∷ []) c → Tells a (refused_by r) c
  unfolding answer_lines
  refusal_puts c r n e f g =
      record {
        puts = puts_puts a b c (status_line (number_of r)) (45 ∷ 10 ∷ []) (rw e at f.0) g;
        bound = omega (arith, f.1, g.put.place);
      }

  module _ (f : Puts a (status_line 0) b × (b.at ≤ a.at + 34)) where
    pub number_puts : (c d : Answers) (n : ℕ) → Puts b (decimal_text n) c → Puts c (10 ∷ []) d → Tells a (shown (decimal_text n)) d
    unfolding answer_lines
    number_puts c d n g h =
        record {
          puts = puts_puts a b d (status_line 0) (decimal_text n ++ (10 ∷ [])) f.0 (puts_puts b c d (decimal_text n) (10 ∷ []) g h);
          bound = omega (arith, decimal_most n, f.1, g.put.place, h.put.place);
        }

    pub hex_puts : (c d e : Answers) (letter bytes : List ℕ) → length letter ≤ 1 → length bytes ≤ 512
        → Puts b letter c → Puts c (hex_text bytes) d → Puts d (10 ∷ []) e → Tells a (shown (letter ++ hex_text bytes)) e
    unfolding answer_lines
    hex_puts c d e letter bytes h k g i j =
        record {
          puts =
              puts_puts a b e (status_line 0) ((letter ++ hex_text bytes) ++ (10 ∷ [])) f.0
              (puts_puts b d e (letter ++ hex_text bytes) (10 ∷ []) (puts_puts b c d letter (hex_text bytes) g i) j);
          bound = omega (arith, f.1, h, k, hex_length bytes, g.put.place, i.put.place, j.put.place);
        }

-- ---- "cmp 0, 1, 2"
pub zero_text : decimal_text 0 ≡ 48 ∷ []
unfolding decimal_text decimal_digits
zero_text = refl

pub one_text : decimal_text 1 ≡ 49 ∷ []
unfolding decimal_text decimal_digits
one_text = refl

pub two_text : decimal_text 2 ≡ 50 ∷ []
unfolding decimal_text decimal_digits
two_text = refl
