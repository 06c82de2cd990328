-- A refusal's numbers as one word, between the functions that make an answer. No promise of an exported function speaks of it.
-- Assumes nothing.
use Rattle.std.specs.Prelude.{ℕ, ◌+◌, ◌*◌, ◌/◌, ◌%◌}
use Rattle.types.specs.Refusals.{number_of, types_of}
use Rattle.types.specs.declared.refusal.Refusal.{Refusal}
use Rattle.link.specs.Answers.{present_of, wanted_of}
use Rattle.link.specs.declared.answer.Answer.{Answer}

-- the refusal's number, the present type, the wanted type, a byte each
unfoldable pub word_of : Refusal → ℕ
word_of r = number_of r + 256 * present_of (types_of r) + 65536 * wanted_of (types_of r)

-- the answer that has a word's bytes
unfoldable pub of_word : ℕ → Answer
of_word w = record { status = w % 256; present = w / 256 % 256; wanted = w / 65536 % 256; kind = 0; count = 0; value = 0 }
