-- Running a list of accesses: in two parts, one after the other.
-- Assumes nothing.
use mathlib.Core.Path.{◌≡◌, refl}
use mathlib.Core.List.{List, [], ◌∷◌, ◌++◌}
use Rattle.field_unit.specs.Accesses.{Plan, Progress, act, acts}
use Rattle.field_unit.specs.declared.access.Access.{Access}

pub acts_append : (p : Plan) (a b : List Access) (s : Progress) → acts p (a ++ b) s ≡ acts p b (acts p a s)
unfolding acts
acts_append p [] b s = refl
acts_append p (x ∷ a) b s = acts_append p a b (act p x s)
