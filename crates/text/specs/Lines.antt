-- The lines of a text. Document 01, "Script program": "four lines each, every line .. ended by a line feed, one without it counting as missing",
-- "if a line is missing or misnamed".
-- Assumes nothing.
use Rattle.std.specs.Prelude.{ℕ, Bool, true, false, cond, ◌&&◌, Option, Some, None, List, [], ◌∷◌, eqb, length}

-- a line without its line feed, and what follows the line feed
pub data Line : Type 0 where
  line : List ℕ → List ℕ → Line
  missing : Line

-- a character in front of a line
abbrev pub longer : ℕ → Line → Line
longer c (line l rest) = line (c ∷ l) rest
longer c missing = missing

-- the first line of a text: what stands before the first line feed, 10
unfoldable pub line_of : List ℕ → Line
line_of [] = missing
line_of (c ∷ s) = cond (eqb c 10) (line [] s) (longer c (line_of s))

abbrev pub length_of : Line → Option ℕ
length_of (line l rest) = Some (length l)
length_of missing = None

-- does a line begin with a name; what is behind the name is `drop (length name)` of the line
unfoldable pub begins : List ℕ → List ℕ → Bool
begins [] l = true
begins (c ∷ name) [] = false
begins (c ∷ name) (d ∷ l) = eqb c d && begins name l
