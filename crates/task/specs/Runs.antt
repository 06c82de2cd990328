-- Demand 3 and "after any number of calls": runs of calls from a fresh table, the premise, and what is claimed.
-- Assumes nothing.
use Rattle.std.specs.Prelude.{ℕ, ◌+◌, ◌*◌, ◌≤◌, ◌<◌, ◌≡◌, ◌⊎◌, true, false, cond, List, [], ◌∷◌, ◌++◌, map, eqb, length, get_or, take, Result, Ok, Err}
use Rattle.bits.specs.Bits.{set_bits}
use Rattle.field_unit.specs.Accesses.{Plan, base, first, last, merged, whole}
use Rattle.field_unit.specs.Calls.{plan_of, access_at}
use Rattle.field_unit.specs.declared.access.Access.{Access}
use Rattle.field_unit.specs.declared.access.Access.TheVariants.{Load, Store}
use Rattle.field_unit.specs.declared.access.FieldOp.{FieldOp}
use Rattle.task.specs.declared.table.Started.{Started}
use Rattle.task.specs.declared.table.Stepped.{Stepped}
use Rattle.task.specs.Tasks.{task_at, fresh, malformed, start, step, step_region, carries_lock}
use Rattle.task.specs.declared.table.Task.{Task}
use Rattle.task.specs.declared.table.Table.{Table}
use Rattle.task.specs.declared.table.Step.TheVariants as St
use Rattle.task.specs.declared.table.Step.{Step}
use Rattle.types.specs.declared.refusal.Refusal.{Refusal}

-- ---- calls, and what there is between two of them

pub data Call : Type 0 where
  start_call : ℕ → FieldOp → Call
  step_call : ℕ → Call

-- a store: so many bits from this bit on become this number
pub record StoreMade : Type 0 where
  pub from : ℕ
  pub width : ℕ
  pub number : ℕ

-- an operation that ended, and what its last step answered
pub record Finished : Type 0 where
  pub op : FieldOp
  pub got : Result Step Refusal

-- the table, the region; the operations that ended, in the order in which they finished; the stores each task has made since its start
pub record Moment : Type 0 where
  pub table : Table
  pub region : List ℕ
  pub finished : List Finished
  pub stored : ℕ → List StoreMade

abbrev pub opening : List ℕ → Moment
opening s = record { table = fresh (length s); region = s; finished = []; stored = λ _. [] }

-- the store that an access makes, with what is held before it
abbrev pub store_of : Plan → Access → ℕ → List StoreMade
store_of p (Load u) h = []
store_of p (Store u) h = record { from = base p u; width = p.width; number = merged p u h } ∷ []

abbrev pub next_store : Task → List StoreMade
next_store k = store_of (plan_of k.op) (access_at k.op k.made) k.held

abbrev pub change : (ℕ → List StoreMade) → ℕ → List StoreMade → (ℕ → List StoreMade)
change f i l = λ j. cond (eqb j i) l (f j)

abbrev pub after_start : Moment → ℕ → Started → Moment
after_start m i a = record { table = a.table; region = m.region; finished = m.finished; stored = begun a.answer }
  where
    begun : Result ℕ Refusal → (ℕ → List StoreMade)
    begun (Ok n) = change m.stored i []
    begun (Err r) = m.stored

abbrev pub ends : FieldOp → Result Step Refusal → List Finished
ends o (Ok St.More) = []
ends o (Ok St.Done) = record { op = o; got = Ok St.Done } ∷ []
ends o (Ok (St.Value v)) = record { op = o; got = Ok (St.Value v) } ∷ []
ends o (Err r) = []

abbrev pub stored_by : Moment → ℕ → Result Step Refusal → (ℕ → List StoreMade)
stored_by m i (Ok St.More) = change m.stored i (m.stored i ++ next_store (task_at m.table i))
stored_by m i (Ok St.Done) = change m.stored i []
stored_by m i (Ok (St.Value v)) = change m.stored i []
stored_by m i (Err r) = m.stored

abbrev pub after_step : Moment → ℕ → Stepped → Moment
after_step m i a =
    record {
      table = a.table;
      region = step_region m.table m.region i;
      finished = m.finished ++ ends (task_at m.table i).op a.answer;
      stored = stored_by m i a.answer;
    }

-- "only these steps change the region": the region is threaded through the calls
abbrev pub called : Moment → Call → Moment
called m (start_call i o) = after_start m i (start m.table m.region i o)
called m (step_call i) = after_step m i (step m.table m.region i)

abbrev pub ran : Moment → List Call → Moment
ran m [] = m
ran m (c ∷ cs) = ran (called m c) cs

-- ---- the premise

-- "Touch" means whole access units: byte c lies in a unit from the first to the last
abbrev pub Touches : FieldOp → ℕ → Type 0
Touches o c = (first (plan_of o) * (plan_of o).width ≤ 8 * c) × (8 * c < (last (plan_of o) + 1) * (plan_of o).width)

-- "any two operations under way together that touch a common byte, one of them writing, both carry the lock rule"
abbrev pub Agreed : Table → Type 0
Agreed t =
    (i j : ℕ) → (i ≡ j → ⊥) → (task_at t i).busy ≡ true → (task_at t j).busy ≡ true
    → (c : ℕ) → Touches (task_at t i).op c → Touches (task_at t j).op c
    → ((task_at t i).op.write ≡ true) ⊎ ((task_at t j).op.write ≡ true)
    → (carries_lock (task_at t i).op ≡ true) × (carries_lock (task_at t j).op ≡ true)

-- at every moment of the run: "under way" runs from an accepted start to the last access
abbrev pub AgreedThroughout : List ℕ → List Call → Type 0
AgreedThroughout s cs = (n : ℕ) → Agreed (ran (opening s) (take n cs)).table

-- "all accepted operations have ended"
abbrev pub AllEnded : Table → Type 0
AllEnded t = (i : ℕ) → (task_at t i).busy ≡ false

-- ---- run whole, one after another, by demand 2's definition

abbrev pub whole_region : FieldOp → List ℕ → List ℕ
whole_region o s = (whole (plan_of o) s).region

abbrev pub whole_answer : FieldOp → List ℕ → Result Step Refusal
whole_answer o s = cond o.write (Ok St.Done) (Ok (St.Value (whole (plan_of o) s).held))

abbrev pub region_after : List FieldOp → List ℕ → List ℕ
region_after [] s = s
region_after (o ∷ os) s = region_after os (whole_region o s)

abbrev pub answers_of : List FieldOp → List ℕ → List (Result Step Refusal)
answers_of [] s = []
answers_of (o ∷ os) s = whole_answer o s ∷ answers_of os (whole_region o s)

abbrev pub ops : List Finished → List FieldOp
ops l = map (λ (f : Finished). f.op) l

abbrev pub answers : List Finished → List (Result Step Refusal)
answers l = map (λ (f : Finished). f.got) l

-- ---- the stores of the operations still under way

abbrev pub stores_on : List StoreMade → List ℕ → List ℕ
stores_on [] s = s
stores_on (x ∷ xs) s = stores_on xs (set_bits s x.from x.width x.number)

abbrev pub under_way : Moment → ℕ → List ℕ → List ℕ
under_way m i s = cond (task_at m.table i).busy (stores_on (m.stored i) s) s

abbrev pub all_under_way : Moment → List ℕ → List ℕ
all_under_way m s = under_way m 3 (under_way m 2 (under_way m 1 (under_way m 0 s)))

-- ---- the claims

-- DEMAND 3: once all accepted operations have ended, the region and every value read are those of running them whole, in finish order
abbrev pub TogetherAsOneAfterAnother : Type 0
TogetherAsOneAfterAnother =
    (s : List ℕ) (cs : List Call) → length s ≤ 65536 → ((j : ℕ) → get_or s j 0 < 256) → AgreedThroughout s cs
    → AllEnded (ran (opening s) cs).table
    → ((ran (opening s) cs).region ≡ region_after (ops (ran (opening s) cs).finished) s)
    × (answers (ran (opening s) cs).finished ≡ answers_of (ops (ran (opening s) cs).finished) s)

-- AFTER ANY NUMBER OF CALLS: the region is the finished operations run whole, then the stores of those under way
abbrev pub AtEveryMoment : Type 0
AtEveryMoment =
    (s : List ℕ) (cs : List Call) → length s ≤ 65536 → ((j : ℕ) → get_or s j 0 < 256) → AgreedThroughout s cs
    → (ran (opening s) cs).region ≡ all_under_way (ran (opening s) cs) (region_after (ops (ran (opening s) cs).finished) s)

-- A WRITE THAT STORES ONE UNIT is absent or complete: as long as it is under way it has stored nothing
abbrev pub AbsentOrComplete : Type 0
AbsentOrComplete =
    (s : List ℕ) (cs : List Call) → length s ≤ 65536 → (i : ℕ)
    → (task_at (ran (opening s) cs).table i).op.write ≡ true
    → first (plan_of (task_at (ran (opening s) cs).table i).op) ≡ last (plan_of (task_at (ran (opening s) cs).table i).op)
    → (r : List ℕ) → under_way (ran (opening s) cs) i r ≡ r

-- NO TABLE that calls reach from a fresh one is malformed
abbrev pub NeverMalformed : Type 0
NeverMalformed = (s : List ℕ) (cs : List Call) → length s ≤ 65536 → malformed (ran (opening s) cs).table ≡ false
