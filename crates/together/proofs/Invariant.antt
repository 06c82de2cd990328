-- The invariant of a run. Let σ be the ended operations run whole, in the order in which they finished. Each task under way holds, and has stored,
-- what its first accesses would from σ; once it has an access made, the state agrees with them on its footprint. A cell that no write with an access
-- made touches is as in σ. At most one lock-rule task has an access made. Every move keeps this, since a task with an access made shares no cell
-- with another one of which one writes: by the premise both would carry the lock rule.
-- Assumes nothing.
use Prim.Native.Nat.{ℕ, zero, suc, ◌<◌}
use native.Mathlib.Omega.{arith}
use native.Mathlib.Decide.{ℕ_discrete}
use mathlib.Core.Path.{◌≡◌, refl, sym, ap, ◌∙◌, subst, fun_ext}
use mathlib.Core.Logic.{◌⊎◌, inl, inr}
use mathlib.Core.Bool.{false, true≢false}
use mathlib.Core.List.{List, [], ◌∷◌, ◌++◌}
use Rattle.together.specs.System.{System, Laws, Agree, put_all, first, whole_state, whole_answer, state_after, answers_of, Slot, Ended, Conf, Busy, Active, ops_of, got_of, Apart, begun, stores_now, held_next, advanced, finishes, Others, NextAccess, Move, stay, begin, more, last, Run, here, then, Fresh}
use Rattle.together.proofs.Alone.{stores_of, put_all_keeps, put_all_good, first_keeps, first_frame, first_quiet, first_local, stores_local, whole_keeps, whole_good}

module _ (S : System) where
  open S use {State, Cell, at, shape, Good, Touch, Writes, Lock}

  abbrev pub Slots : Type 0
  Slots = ℕ → Slot S

  -- a task is as its operation run alone from σ
  pub record Fine (σ s : State) (x : Slot S) : Type 0 where
    pub held : Busy S x → x.held ≡ (first S x.op x.made σ).0
    pub done : Busy S x → x.done ≡ stores_of S x.op x.made σ
    pub seen : Active S x → Agree S x.op s (first S x.op x.made σ).1

  -- it has the lock
  abbrev pub Locks : Slot S → Type 0
  Locks x = Active S x × Lock x.op

  abbrev pub One : Slots → Type 0
  One t = (a b : ℕ) → (a ≡ b → ⊥) → Locks (t a) → Locks (t b) → ⊥

  -- a write with an access made, and c is in its footprint
  abbrev pub Mine : Slot S → Cell → Type 0
  Mine x c = Active S x × (Writes x.op × Touch x.op c)

  -- the ended operations run whole
  abbrev pub after : State → List (Ended S) → State
  after ρ l = state_after S (ops_of S l) ρ

  pub record Inv (ρ : State) (t : Slots) (s : State) (l : List (Ended S)) : Type 0 where
    pub answers : got_of S l ≡ answers_of S (ops_of S l) ρ
    pub shaped : shape s ≡ shape ρ
    pub good : Good s
    pub fine : (j : ℕ) → Fine (after ρ l) s (t j)
    pub rest : (c : Cell) → ((j : ℕ) → Mine (t j) c → ⊥) → at s c ≡ at (after ρ l) c
    pub one : One t

  abbrev pub Holds : State → Conf S → Type 0
  Holds ρ c = Inv ρ c.slots c.state c.log

  -- ---- one more ended

  after_snoc : (l : List (Ended S)) (e : Ended S) (ρ : State) → after ρ (l ++ (e ∷ [])) ≡ whole_state S e.op (after ρ l)
  after_snoc [] e ρ = refl
  after_snoc (x ∷ l) e ρ = after_snoc l e (whole_state S x.op ρ)

  answers_snoc : (l : List (Ended S)) (e : Ended S) (ρ : State)
      → answers_of S (ops_of S (l ++ (e ∷ []))) ρ ≡ answers_of S (ops_of S l) ρ ++ (whole_answer S e.op (after ρ l) ∷ [])
  answers_snoc [] e ρ = refl
  answers_snoc (x ∷ l) e ρ = ap (λ q. whole_answer S x.op ρ ∷ q) (answers_snoc l e (whole_state S x.op ρ))

  got_snoc : (l : List (Ended S)) (e : Ended S) → got_of S (l ++ (e ∷ [])) ≡ got_of S l ++ (e.got ∷ [])
  got_snoc [] e = refl
  got_snoc (x ∷ l) e = ap (λ q. x.got ∷ q) (got_snoc l e)

  -- ---- one task changed

  by_slot : (t u : Slots) (i : ℕ) → Others S t u i → (Q : Slot S → Type 0) → Q (u i) → ((j : ℕ) → (j ≡ i → ⊥) → Q (t j)) → (j : ℕ) → Q (u j)
  by_slot t u i o Q q r j = go (ℕ_discrete j i)
    where
      go : Dec (j ≡ i) → Q (u j)
      go (yes e) = subst (λ (k : ℕ). Q (u k)) (sym e) q
      go (no n) = subst Q (sym (o j n)) (r j n)

  -- and back
  from_slot : (t u : Slots) (i : ℕ) → Others S t u i → (Q : Slot S → Type 0) → Q (t i) → ((j : ℕ) → Q (u j)) → (j : ℕ) → Q (t j)
  from_slot t u i o Q q r = by_slot u t i (λ j n. sym (o j n)) Q q (λ j n. r j)

  one_by_slot : (t u : Slots) (i : ℕ) → Others S t u i → One t → ((j : ℕ) → (j ≡ i → ⊥) → Locks (u i) → Locks (t j) → ⊥) → One u
  one_by_slot t u i o h new a b n p q = go (ℕ_discrete a i) (ℕ_discrete b i)
    where
      go : Dec (a ≡ i) → Dec (b ≡ i) → ⊥
      go (yes e) (yes f) = n (e ∙ sym f)
      go (yes e) (no m) = new b m (subst (λ k. Locks (u k)) e p) (subst Locks (o b m) q)
      go (no m) (yes f) = new a m (subst (λ k. Locks (u k)) f q) (subst Locks (o a m) p)
      go (no m) (no m') = h a b n (subst Locks (o a m) p) (subst Locks (o b m') q)

  -- under way, without an access made or with one
  pub by_made : (A : Type 0) (x : Slot S) → Busy S x → (x.made ≡ 0 → A) → (Active S x → A) → A
  by_made A x b f g = go x.made refl
    where
      go : (k : ℕ) → x.made ≡ k → A
      go zero e = f e
      go (suc k) e = g (b, omega arith)

module _ (S : System) (L : Laws S) where
  open S use {State, Cell, Op, at, shape, Good, total, load, stores, answer, Touch, Writes, Lock}

  -- a task that nothing disturbs
  carry : (σ σ' s s' : State) (x : Slot S) → Fine S σ s x → (Active S x → Agree S x.op s' s) → (Active S x → Agree S x.op σ σ') → Fine S σ' s' x
  carry σ σ' s s' x f p q =
      record {
        held = λ b. f.held b ∙ by_made S _ x b
            (λ e. ap (λ k. (first S x.op k σ).0) e ∙ sym (ap (λ k. (first S x.op k σ').0) e))
            (λ a. (first_local S L x.op x.made σ σ' (q a)).0);
        done = λ b. f.done b ∙ by_made S _ x b
            (λ e. ap (λ k. stores_of S x.op k σ) e ∙ sym (ap (λ k. stores_of S x.op k σ') e))
            (λ a. stores_local S L x.op x.made σ σ' (q a));
        seen = λ a.
            let z = (first_local S L x.op x.made σ σ' (q a)).1 in
            record { same = (p a).same ∙ (f.seen a).same ∙ z.same; on = λ c i. (p a).on c i ∙ (f.seen a).on c i ∙ z.on c i };
      }

  -- ---- a task makes an access

  module _ (ρ : State) (gρ : Good ρ) (c d : Conf S) (v : Holds S ρ c) (apart : Apart S c.slots) (i : ℕ) (m : NextAccess S c d i) where
    abbrev σ : State
    σ = after S ρ c.log

    abbrev me : Slot S
    me = c.slots i

    σ_good : Good σ
    σ_good = whole_good S L (ops_of S c.log) ρ gρ

    -- where it has the lock, or takes it, no other has it
    lone : (j : ℕ) → (j ≡ i → ⊥) → Lock me.op → Locks S (c.slots j) → ⊥
    lone j n l q = by_made S ⊥ me m.busy (λ e. m.free e l j n q.0 q.1) (λ a. v.one i j (λ f. n (sym f)) (a, l) q)

    -- another task with an access made shares no cell with it, where one of them writes
    clash : (j : ℕ) → (j ≡ i → ⊥) → Active S (c.slots j) → (x : Cell) → Touch me.op x → Touch (c.slots j).op x
        → Writes me.op ⊎ Writes (c.slots j).op → ⊥
    clash j n a x p q w = let l = apart i j (λ e. n (sym e)) m.busy a.0 x p q w in lone j n l.0 (a, l.1)

    -- it sees its footprint as after the ended operations and its own accesses
    sees : Agree S me.op c.state (first S me.op me.made σ).1
    sees =
        by_made S _ me m.busy
        (λ e. record {
          same = v.shaped ∙ sym (whole_keeps S L (ops_of S c.log) ρ) ∙ sym (first_keeps S L me.op me.made σ);
          on = begins e;
        })
        (v.fine i).seen
      where
        begins : me.made ≡ 0 → (x : Cell) → Touch me.op x → at c.state x ≡ at (first S me.op me.made σ).1 x
        begins e x t = v.rest x (λ j y. off j y (ℕ_discrete j i)) ∙ ap (λ k. at (first S me.op k σ).1 x) (sym e)
          where
            off : (j : ℕ) → Mine S (c.slots j) x → Dec (j ≡ i) → ⊥
            off j y (yes f) = let z : 0 < me.made = subst (λ k. 0 < (c.slots k).made) f y.0.1 in omega arith
            off j y (no n) = clash j n y.0 x t y.1.1 (inr y.1.0)

    -- what it holds, has stored and leaves after the access
    held_next_lem : held_next S me c.state ≡ (first S me.op (suc me.made) σ).0
    held_next_lem =
        L.local_held _ _ _ _ _ sees ∙ ap (λ h. load me.op me.made h (first S me.op me.made σ).1) ((v.fine i).held m.busy)

    done_next : me.done ++ stores_now S me ≡ stores_of S me.op (suc me.made) σ
    done_next = cc ((v.fine i).done m.busy, (v.fine i).held m.busy)

    shaped_next : shape d.state ≡ shape c.state
    shaped_next = ap shape m.state ∙ put_all_keeps S L (stores_now S me) c.state

    good_next : Good d.state
    good_next = subst Good (sym m.state) (put_all_good S L (stores_now S me) c.state v.good)

    state_next : Agree S me.op d.state (first S me.op (suc me.made) σ).1
    state_next =
        record {
          same = shaped_next ∙ sees.same ∙ sym (put_all_keeps S L (stores me.op me.made (first S me.op me.made σ).0) _);
          on = λ x t.
              ap (λ s. at s x) m.state
              ∙ L.local_at _ _ _ _ _ sees x t
              ∙ ap (λ h. at (put_all S (stores me.op me.made h) (first S me.op me.made σ).1) x) ((v.fine i).held m.busy);
        }

    -- a cell that it does not write stays
    stays : (x : Cell) → (Writes me.op → Touch me.op x → ⊥) → at d.state x ≡ at c.state x
    stays x n = ap (λ s. at s x) m.state ∙ go (L.writes? me.op)
      where
        go : Dec (Writes me.op) → at (put_all S (stores_now S me) c.state) x ≡ at c.state x
        go (yes w) = L.frame _ _ _ _ v.good x (n w)
        go (no f) = ap (λ xs. at (put_all S xs c.state) x) (L.quiet me.op me.made me.held f)

    whole_stays : (k : ℕ) (x : Cell) → (Writes me.op → Touch me.op x → ⊥) → at σ x ≡ at (first S me.op k σ).1 x
    whole_stays k x n = go (L.writes? me.op)
      where
        go : Dec (Writes me.op) → at σ x ≡ at (first S me.op k σ).1 x
        go (yes w) = sym (first_frame S L me.op k σ σ_good x (n w))
        go (no f) = ap (λ s. at s x) (sym (first_quiet S L me.op k σ f))

    -- the others, with k of its accesses added to the ended operations
    others_fine : (k j : ℕ) → (j ≡ i → ⊥) → Fine S (first S me.op k σ).1 d.state (c.slots j)
    others_fine k j n =
        carry σ _ c.state d.state (c.slots j) (v.fine j)
        (λ a. record { same = shaped_next; on = λ x t. stays x (λ w p. clash j n a x p t (inl w)) })
        (λ a. record { same = sym (first_keeps S L me.op k σ); on = λ x t. whole_stays k x (λ w p. clash j n a x p t (inl w)) })

    -- not its last
    inv_more : d.slots i ≡ advanced S me c.state → Inv S ρ d.slots d.state c.log
    inv_more e =
        record {
          answers = v.answers;
          shaped = shaped_next ∙ v.shaped;
          good = good_next;
          fine = by_slot S c.slots d.slots i m.others (Fine S σ d.state)
              (subst (Fine S σ d.state) (sym e) (record { held = λ b. held_next_lem; done = λ b. done_next; seen = λ a. state_next }))
              (others_fine 0);
          rest = λ x h.
              stays x (mine x h)
              ∙ v.rest x (from_slot S c.slots d.slots i m.others (λ y. Mine S y x → ⊥) (λ y. mine x h y.1.0 y.1.1) h);
          one = one_by_slot S c.slots d.slots i m.others v.one (λ j n p q. lone j n (subst (λ y. Lock y.op) e p.1) q);
        }
      where
        mine : (x : Cell) → ((j : ℕ) → Mine S (d.slots j) x → ⊥) → Writes me.op → Touch me.op x → ⊥
        mine x h w t = subst (λ y. Mine S y x → ⊥) e (h i) ((refl, omega arith), (w, t))

    -- its last
    inv_last : (d.slots i).busy ≡ false → suc me.made ≡ total me.op → Inv S ρ d.slots d.state (c.log ++ (finishes S me c.state ∷ []))
    inv_last e f =
        record {
          answers =
              got_snoc S c.log end
              ∙ ap (λ l. l ++ (end.got ∷ [])) v.answers
              ∙ ap (λ a. answers_of S (ops_of S c.log) ρ ++ (a ∷ [])) value
              ∙ sym (answers_snoc S c.log end ρ);
          shaped = shaped_next ∙ v.shaped;
          good = good_next;
          fine = rw (after_snoc S c.log end ρ)
              (by_slot S c.slots d.slots i m.others (Fine S σ' d.state)
              (record { held = λ b. absurd (idle b); done = λ b. absurd (idle b); seen = λ a. absurd (idle a.0) })
              (others_fine (total me.op)));
          rest = λ x h. go x h (L.touch? me.op x) ∙ ap (λ τ. at τ x) (sym (after_snoc S c.log end ρ));
          one = one_by_slot S c.slots d.slots i m.others v.one (λ j n p q. idle p.0.0);
        }
      where
        end : Ended S
        end = finishes S me c.state

        σ' : State
        σ' = whole_state S me.op σ

        idle : Busy S (d.slots i) → ⊥
        idle b = true≢false (sym b ∙ e)

        value : end.got ≡ whole_answer S me.op σ
        value = ap (answer me.op) (held_next_lem ∙ ap (λ k. (first S me.op k σ).0) f)

        go : (x : Cell) → ((j : ℕ) → Mine S (d.slots j) x → ⊥) → Dec (Touch me.op x) → at d.state x ≡ at σ' x
        go x h (yes t) = state_next.on x t ∙ ap (λ k. at (first S me.op k σ).1 x) f
        go x h (no n) =
            stays x (λ w t. n t)
            ∙ v.rest x (from_slot S c.slots d.slots i m.others (λ y. Mine S y x → ⊥) (λ y. n y.1.1) h)
            ∙ sym (first_frame S L me.op (total me.op) σ σ_good x n)

  -- ---- every move keeps it

  inv_begin : (ρ : State) (t u : Slots S) (s : State) (l : List (Ended S)) (i : ℕ) (o : Op)
      → Inv S ρ t s l → (t i).busy ≡ false → Others S t u i → u i ≡ begun S o → Inv S ρ u s l
  inv_begin ρ t u s l i o v was same e =
      record {
        answers = v.answers;
        shaped = v.shaped;
        good = v.good;
        fine = by_slot S t u i same (Fine S (after S ρ l) s)
            (subst (Fine S (after S ρ l) s) (sym e) (record { held = λ b. refl; done = λ b. refl; seen = λ a. absurd (omega (arith, a.1)) }))
            (λ j n. v.fine j);
        rest = λ x h. v.rest x (from_slot S t u i same (λ y. Mine S y x → ⊥) (λ y. true≢false (sym y.0.0 ∙ was)) h);
        one = one_by_slot S t u i same v.one (λ j n p q. unmade (subst (Active S) e p.0));
      }
    where
      unmade : Active S (begun S o) → ⊥
      unmade a = omega (arith, a.1)

  pub inv_move : (ρ : State) → Good ρ → (c d : Conf S) → Holds S ρ c → Apart S c.slots → Move S c d → Holds S ρ d
  inv_move ρ g c d v apart (stay p q r) =
      subst (Holds S ρ) (λ k. record { slots = fun_ext (λ j. sym (p j)) k; state = sym q k; log = sym r k }) v
  inv_move ρ g c d v apart (begin i o was others e q r) =
      subst (λ s. Inv S ρ d.slots s d.log) (sym q)
      (subst (λ l. Inv S ρ d.slots c.state l) (sym r) (inv_begin ρ c.slots d.slots c.state c.log i o v was others e))
  inv_move ρ g c d v apart (more i m e r) = subst (λ l. Inv S ρ d.slots d.state l) (sym r) (inv_more ρ g c d v apart i m e)
  inv_move ρ g c d v apart (last i m e f r) = subst (λ l. Inv S ρ d.slots d.state l) (sym r) (inv_last ρ g c d v apart i m e f)

  pub inv_fresh : (c : Conf S) → Good c.state → Fresh S c → Holds S c.state c
  inv_fresh c g f =
      subst (λ l. Inv S c.state c.slots c.state l) (sym f.1)
      (record {
        answers = refl;
        shaped = refl;
        good = g;
        fine = λ j. record { held = λ b. absurd (idle j b); done = λ b. absurd (idle j b); seen = λ a. absurd (idle j a.0) };
        rest = λ x h. refl;
        one = λ a b n p q. idle a p.0.0;
      })
    where
      idle : (j : ℕ) → Busy S (c.slots j) → ⊥
      idle j b = true≢false (sym b ∙ f.0 j)

  pub inv_run : (c d : Conf S) → Good c.state → Fresh S c → Run S (Apart S) c d → Holds S c.state d × Apart S d.slots
  inv_run c d g f (here p) = (inv_fresh c g f, p)
  inv_run c d g f (then {d = b} r m p) = let (v, q) = inv_run c b g f r in (inv_move c.state g b d v q m, p)
