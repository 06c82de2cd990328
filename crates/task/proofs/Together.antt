-- Demand 3, and what holds after any number of calls: every call is a move, so the theorem about field units as a system holds of the runs; and what the
-- system runs whole is document 01's list of accesses (first_whole).
-- Assumes nothing.
use Prim.Native.Nat.{ℕ, ◌≤◌}
use mathlib.Core.Path.{◌≡◌, refl, sym, ap, ◌∙◌}
use mathlib.Core.Bool.{false, cond}
use mathlib.Core.List.{List, [], ◌∷◌}
use lib.ListN.{length}
use Rattle.field_unit.specs.declared.access.FieldOp.{FieldOp}
use Rattle.together.specs.System as T
use Rattle.together.proofs.Interleaved.{at_every_moment}
use Rattle.task.specs.Tasks.{task_at}
use Rattle.task.specs.Runs.{Call, StoreMade, Finished, Moment, opening, ran, AgreedThroughout, whole_region, whole_answer, region_after, answers_of, ops, answers, stores_on, under_way, all_under_way, TogetherAsOneAfterAnother, AtEveryMoment}
use Rattle.task.proofs.FieldUnits.{Bytes, last_answer, fields, field_laws, first_whole}
use Rattle.task.proofs.Sound.{fresh_idle, sound_fresh, sound_run, beyond}
use Rattle.task.proofs.Moves.{ended, view, follow}

-- ---- the system's words are those of the statement

whole_region_lem : (o : FieldOp) (s : List ℕ) → T.whole_state fields o s ≡ whole_region o s
whole_region_lem o s = sym (ap (λ x. x.region) (first_whole o s))

whole_answer_lem : (o : FieldOp) (s : List ℕ) → T.whole_answer fields o s ≡ whole_answer o s
whole_answer_lem o s = sym (ap (λ x. last_answer o x.held) (first_whole o s))

region_after_lem : (os : List FieldOp) (s : List ℕ) → T.state_after fields os s ≡ region_after os s
region_after_lem [] s = refl
region_after_lem (o ∷ os) s = ap (T.state_after fields os) (whole_region_lem o s) ∙ region_after_lem os (whole_region o s)

answers_of_lem : (os : List FieldOp) (s : List ℕ) → T.answers_of fields os s ≡ answers_of os s
answers_of_lem [] s = refl
answers_of_lem (o ∷ os) s =
    ap (λ l. T.whole_answer fields o s ∷ l) (ap (T.answers_of fields os) (whole_region_lem o s) ∙ answers_of_lem os (whole_region o s))
    ∙ ap (λ a. a ∷ answers_of os (whole_region o s)) (whole_answer_lem o s)

ops_ended : (l : List Finished) → T.ops_of fields (ended l) ≡ ops l
ops_ended [] = refl
ops_ended (f ∷ l) = ap (λ r. f.op ∷ r) (ops_ended l)

answers_ended : (l : List Finished) → T.got_of fields (ended l) ≡ answers l
answers_ended [] = refl
answers_ended (f ∷ l) = ap (λ r. f.got ∷ r) (answers_ended l)

puts : (l : List StoreMade) (s : List ℕ) → T.put_all fields l s ≡ stores_on l s
puts [] s = refl
puts (x ∷ l) s = puts l (fields.put x s)

under_way_lem : (m : Moment) (i : ℕ) (r s : List ℕ) → r ≡ s → cond (task_at m.table i).busy (T.put_all fields (m.stored i) r) r ≡ under_way m i s
under_way_lem m i r s e =
    ap (λ x. cond (task_at m.table i).busy (T.put_all fields (m.stored i) x) x) e ∙ ap (λ x. cond (task_at m.table i).busy x s) (puts (m.stored i) s)

all_under_way_lem : (m : Moment) (s : List ℕ) → T.overlay fields (view m).slots 4 s ≡ all_under_way m s
all_under_way_lem m s = under_way_lem m 3 _ _ (under_way_lem m 2 _ _ (under_way_lem m 1 _ _ (under_way_lem m 0 _ _ refl)))

-- ---- the theorems

module _ (s : List ℕ) (cs : List Call) (small : length s ≤ 65536) (b : Bytes s) (a : AgreedThroughout s cs) where
  abbrev now : Moment
  now = ran (opening s) cs

  fresh : T.Fresh fields (view (opening s))
  fresh = (λ i. ap (λ k. k.busy) (fresh_idle (length s) i), refl)

  moves : T.Run fields (T.Apart fields) (view (opening s)) (view now)
  moves = follow (view (opening s)) (opening s) (sound_fresh (length s) small) (T.here (a 0)) cs a

  both : (n : ℕ) → ((j : ℕ) → n ≤ j → (task_at now.table j).busy ≡ false)
      → (now.region ≡ T.overlay fields (view now).slots n (region_after (ops now.finished) s))
      × (answers now.finished ≡ answers_of (ops now.finished) s)
  both n idle =
      let (r, g) = at_every_moment fields field_laws n (view (opening s)) (view now) b fresh moves idle in
      let os = T.ops_of fields (ended now.finished) in (
        r ∙ ap (T.overlay fields (view now).slots n) (region_after_lem os s ∙ ap (λ l. region_after l s) (ops_ended now.finished)),
        sym (answers_ended now.finished) ∙ g ∙ answers_of_lem os s ∙ ap (λ l. answers_of l s) (ops_ended now.finished),
      )

pub together : TogetherAsOneAfterAnother
together s cs small b a all = both s cs small b a 0 (λ j p. all j)

pub every_moment : AtEveryMoment
every_moment s cs small b a =
    let four = (sound_run (opening s) (sound_fresh (length s) small) cs).four in
    (both s cs small b a 4 (λ j p. ap (λ k. k.busy) (beyond (ran (opening s) cs).table four j p))).0 ∙ all_under_way_lem (ran (opening s) cs) _
