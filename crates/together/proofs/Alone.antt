-- An operation that runs alone: the laws of footprints, carried from one access to the first k, and to whole calls in a row. Each is an induction
-- over the accesses made.
-- Assumes nothing.
use Prim.Native.Nat.{ℕ, zero, suc}
use mathlib.Core.Path.{◌≡◌, refl, sym, ap, ◌∙◌}
use mathlib.Core.List.{List, [], ◌∷◌, ◌++◌}
use Rattle.together.specs.System.{System, Laws, Agree, put_all, first, state_after}

module _ (S : System) where
  open S use {State, Cell, Op, Store, at, shape, stores, put}

  pub put_all_append : (xs ys : List Store) (s : State) → put_all S (xs ++ ys) s ≡ put_all S ys (put_all S xs s)
  put_all_append [] ys s = refl
  put_all_append (x ∷ xs) ys s = put_all_append xs ys (put x s)

  -- the stores of the first k accesses
  abbrev pub stores_of : Op → ℕ → State → List Store
  stores_of o zero s = []
  stores_of o (suc k) s = stores_of o k s ++ stores o k (first S o k s).0

  pub stored : (o : Op) (k : ℕ) (s : State) → put_all S (stores_of o k s) s ≡ (first S o k s).1
  stored o zero s = refl
  stored o (suc k) s = put_all_append (stores_of o k s) _ s ∙ ap (put_all S (stores o k (first S o k s).0)) (stored o k s)

module _ (S : System) (L : Laws S) where
  open S use {State, Cell, Op, Store, at, shape, Good, total, load, stores, put, Touch, Writes}

  pub put_all_keeps : (xs : List Store) (s : State) → shape (put_all S xs s) ≡ shape s
  put_all_keeps [] s = refl
  put_all_keeps (x ∷ xs) s = put_all_keeps xs (put x s) ∙ L.keeps x s

  pub put_all_good : (xs : List Store) (s : State) → Good s → Good (put_all S xs s)
  put_all_good [] s g = g
  put_all_good (x ∷ xs) s g = put_all_good xs (put x s) (L.good x s g)

  -- the stores of an operation, wherever they were computed, on any state
  module _ (o : Op) (σ : State) where
    pub stores_frame : (k : ℕ) (s : State) → Good s → (c : Cell) → (Touch o c → ⊥) → at (put_all S (stores_of S o k σ) s) c ≡ at s c
    stores_frame zero s g c n = refl
    stores_frame (suc k) s g c n =
        ap (λ τ. at τ c) (put_all_append S (stores_of S o k σ) _ s)
        ∙ L.frame o k _ _ (put_all_good (stores_of S o k σ) s g) c n
        ∙ stores_frame k s g c n

    pub stores_quiet : (k : ℕ) → (Writes o → ⊥) → stores_of S o k σ ≡ []
    stores_quiet zero n = refl
    stores_quiet (suc k) n = cc (stores_quiet k n, L.quiet o k (first S o k σ).0 n)

  pub first_keeps : (o : Op) (k : ℕ) (s : State) → shape (first S o k s).1 ≡ shape s
  first_keeps o k s = ap shape (sym (stored S o k s)) ∙ put_all_keeps (stores_of S o k s) s

  pub first_good : (o : Op) (k : ℕ) (s : State) → Good s → Good (first S o k s).1
  first_good o zero s g = g
  first_good o (suc k) s g = put_all_good (stores o k (first S o k s).0) _ (first_good o k s g)

  pub first_frame : (o : Op) (k : ℕ) (s : State) → Good s → (c : Cell) → (Touch o c → ⊥) → at (first S o k s).1 c ≡ at s c
  first_frame o k s g c n = ap (λ τ. at τ c) (sym (stored S o k s)) ∙ stores_frame o s k s g c n

  pub first_quiet : (o : Op) (k : ℕ) (s : State) → (Writes o → ⊥) → (first S o k s).1 ≡ s
  first_quiet o k s n = sym (stored S o k s) ∙ ap (λ xs. put_all S xs s) (stores_quiet o s k n)

  -- from states that agree on its footprint an operation holds the same, makes the same stores, and leaves states that agree there
  pub first_local : (o : Op) (k : ℕ) (s t : State) → Agree S o s t
      → ((first S o k s).0 ≡ (first S o k t).0) × Agree S o (first S o k s).1 (first S o k t).1
  first_local o zero s t a = (refl, a)
  first_local o (suc k) s t a =
      let (e, b) = first_local o k s t a in (
        L.local_held o k _ _ _ b ∙ ap (λ h. load o k h (first S o k t).1) e,
        record {
          same = put_all_keeps (stores o k (first S o k s).0) _ ∙ b.same ∙ sym (put_all_keeps (stores o k (first S o k t).0) _);
          on = λ c i. L.local_at o k _ _ _ b c i ∙ ap (λ h. at (put_all S (stores o k h) (first S o k t).1) c) e;
        },
      )

  pub stores_local : (o : Op) (k : ℕ) (s t : State) → Agree S o s t → stores_of S o k s ≡ stores_of S o k t
  stores_local o zero s t a = refl
  stores_local o (suc k) s t a = cc (stores_local o k s t a, (first_local o k s t a).0)

  pub whole_keeps : (os : List Op) (s : State) → shape (state_after S os s) ≡ shape s
  whole_keeps [] s = refl
  whole_keeps (o ∷ os) s = whole_keeps os _ ∙ first_keeps o (total o) s

  pub whole_good : (os : List Op) (s : State) → Good s → Good (state_after S os s)
  whole_good [] s g = g
  whole_good (o ∷ os) s g = whole_good os _ (first_good o (total o) s g)
