-- Nothing here is empty, computed. Two writers of one byte take the lock in turn, while a reader reads other bytes: the premise holds at every moment, all end,
-- and both writes are in the region. Without the lock rule the same two writers, interleaved, lose a write: so the premise is needed.
-- Assumes nothing.
use Prim.Native.Nat.{ℕ, zero, suc, ◌≤◌, ◌<◌}
use native.Mathlib.Omega.{arith}
use mathlib.Core.Path.{◌≡◌, refl, sym, ap, ◌∙◌}
use mathlib.Core.Bool.{Bool, true, false}
use mathlib.Core.List.{List, [], ◌∷◌}
use lib.ListN.{length, get_or, take}
use Rattle.bits.specs.Bits.{bit_of, bit_at, run, bytes, put, with_bits}
use Rattle.types.specs.Flags.{access_width}
use Rattle.types.specs.Refusals.{first_of}
use Rattle.types.specs.declared.refusal.Refusal.TheVariants as R
use Rattle.types.specs.declared.value.RegionSpace.TheVariants as S
use Rattle.field_unit.specs.Checks.{field_checks}
use Rattle.field_unit.specs.Accesses.{unit_accesses, accesses_from, gathered, others, merged, act, acts}
use Rattle.field_unit.specs.declared.access.FieldOp.{FieldOp}
use Rattle.task.specs.Tasks.{malformed, start_checks, start, step_checks, step, step_region}
use Rattle.task.specs.Runs.{Call, start_call, step_call, opening, ran, AgreedThroughout, AllEnded, region_after, answers_of, ops, answers}
use Rattle.std.specs.Prelude.{Ok, Err}
use Rattle.task.specs.declared.table.Step.TheVariants as St
use Rattle.task.proofs.Premise.{agreed_throughout}
use Rattle.task.proofs.Together.{together}

-- a field of SystemMemory, in bytes, under Preserve
abbrev field : ℕ → ℕ → ℕ → Bool → ℕ → FieldOp
field flags offset size w v = record { write = w; field = record { space = S.SystemMemory; flags = record { 0 = flags }; offset = offset; length = size }; value = v }

-- the lower and the upper half of byte 0, under the lock rule; bytes 1 and 2, without
abbrev lower : FieldOp
lower = field 16 0 4 true 5

abbrev upper : FieldOp
upper = field 16 4 4 true 10

abbrev beside : FieldOp
beside = field 0 8 16 false 0

abbrev in_turn : List Call
in_turn =
    start_call 0 lower ∷ start_call 1 upper ∷ start_call 2 beside
    ∷ step_call 0 ∷ step_call 1 ∷ step_call 2 ∷ step_call 0 ∷ step_call 1 ∷ step_call 2 ∷ step_call 1 ∷ []

abbrev bytes_then : List ℕ
bytes_then = 0 ∷ 0x12 ∷ 0x34 ∷ []

pub premise_met : AgreedThroughout bytes_then in_turn
unfolding bit_of bit_at run bytes put with_bits access_width first_of field_checks unit_accesses accesses_from gathered others merged act acts malformed start_checks start step_checks step step_region
premise_met = agreed_throughout bytes_then in_turn (omega arith) refl

-- the second writer meets the lock
pub turned_away : (step (ran (opening bytes_then) (take 4 in_turn)).table bytes_then 1).answer ≡ Err R.LockHeld
unfolding bit_of bit_at run bytes put with_bits access_width first_of field_checks unit_accesses accesses_from gathered others merged act acts malformed start_checks start step_checks step step_region
turned_away = refl

pub all_ended : AllEnded (ran (opening bytes_then) in_turn).table
unfolding bit_of bit_at run bytes put with_bits access_width first_of field_checks unit_accesses accesses_from gathered others merged act acts malformed start_checks start step_checks step step_region
all_ended zero = refl
all_ended (suc zero) = refl
all_ended (suc (suc zero)) = refl
all_ended (suc (suc (suc zero))) = refl
all_ended (suc (suc (suc (suc i)))) = refl

-- who finished, what each answered, and the region
pub both_written :
    (ops (ran (opening bytes_then) in_turn).finished ≡ lower ∷ beside ∷ upper ∷ [])
    × (answers (ran (opening bytes_then) in_turn).finished ≡ Ok St.Done ∷ Ok (St.Value 0x3412) ∷ Ok St.Done ∷ [])
    × ((ran (opening bytes_then) in_turn).region ≡ 0xA5 ∷ 0x12 ∷ 0x34 ∷ [])
unfolding bit_of bit_at run bytes put with_bits access_width first_of field_checks unit_accesses accesses_from gathered others merged act acts malformed start_checks start step_checks step step_region
both_written = (refl, refl, refl)

-- the theorem, of this run
pub as_one_after_another :
    ((ran (opening bytes_then) in_turn).region ≡ region_after (ops (ran (opening bytes_then) in_turn).finished) bytes_then)
    × (answers (ran (opening bytes_then) in_turn).finished ≡ answers_of (ops (ran (opening bytes_then) in_turn).finished) bytes_then)
as_one_after_another = together bytes_then in_turn (omega arith) small premise_met all_ended
  where
    small : (j : ℕ) → get_or bytes_then j 0 < 256
    small zero = omega arith
    small (suc zero) = omega arith
    small (suc (suc zero)) = omega arith
    small (suc (suc (suc j))) = omega arith

-- under way: a write of one unit has put nothing into the region before its last access, one of two units has made its first store
abbrev wide : FieldOp
wide = field 16 0 16 true 0x6677

pub half_way :
    ((ran (opening bytes_then) (start_call 0 lower ∷ step_call 0 ∷ [])).region ≡ bytes_then)
    × ((ran (opening bytes_then) (start_call 0 wide ∷ step_call 0 ∷ [])).region ≡ 0x77 ∷ 0x12 ∷ 0x34 ∷ [])
    × ((ran (opening bytes_then) (start_call 0 wide ∷ step_call 0 ∷ [])).finished ≡ [])
unfolding bit_of bit_at run bytes put with_bits access_width first_of field_checks unit_accesses accesses_from gathered others merged act acts malformed start_checks start step_checks step step_region
half_way = (refl, refl, refl)

-- ---- without the lock rule

abbrev lower_free : FieldOp
lower_free = field 0 0 4 true 5

abbrev upper_free : FieldOp
upper_free = field 0 4 4 true 10

-- both load, then both store
abbrev crossed : List Call
crossed = start_call 0 lower_free ∷ start_call 1 upper_free ∷ step_call 0 ∷ step_call 1 ∷ step_call 0 ∷ step_call 1 ∷ []

abbrev zero_byte : List ℕ
zero_byte = 0 ∷ []

crossed_ended : AllEnded (ran (opening zero_byte) crossed).table
unfolding bit_of bit_at run bytes put with_bits access_width first_of field_checks unit_accesses accesses_from gathered others merged act acts malformed start_checks start step_checks step step_region
crossed_ended zero = refl
crossed_ended (suc zero) = refl
crossed_ended (suc (suc zero)) = refl
crossed_ended (suc (suc (suc zero))) = refl
crossed_ended (suc (suc (suc (suc i)))) = refl

-- the first write is lost; run whole, in either order, both stay
pub write_lost :
    ((ran (opening zero_byte) crossed).region ≡ 0xA0 ∷ [])
    × (ops (ran (opening zero_byte) crossed).finished ≡ lower_free ∷ upper_free ∷ [])
    × (region_after (lower_free ∷ upper_free ∷ []) zero_byte ≡ 0xA5 ∷ [])
    × (region_after (upper_free ∷ lower_free ∷ []) zero_byte ≡ 0xA5 ∷ [])
unfolding bit_of bit_at run bytes put with_bits access_width first_of field_checks unit_accesses accesses_from gathered others merged act acts malformed start_checks start step_checks step step_region
write_lost = (refl, refl, refl, refl)

-- demand 3 without its premise is false
pub premise_needed :
    ((s : List ℕ) (cs : List Call) → length s ≤ 65536 → ((j : ℕ) → get_or s j 0 < 256) → AllEnded (ran (opening s) cs).table
    → (ran (opening s) cs).region ≡ region_after (ops (ran (opening s) cs).finished) s)
    → ⊥
premise_needed claim =
    let e = sym write_lost.0 ∙ claim zero_byte crossed (omega arith) small crossed_ended ∙ ap (λ l. region_after l zero_byte) write_lost.1 ∙ write_lost.2 in
    let z : ◌≡◌ {A = ℕ} 0xA0 0xA5 = ap (λ l. get_or l 0 0) e in
    omega arith
  where
    small : (j : ℕ) → get_or zero_byte j 0 < 256
    small zero = omega arith
    small (suc j) = omega arith
