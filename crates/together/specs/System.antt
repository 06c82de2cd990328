-- Operations made of single accesses to a shared state, and tasks that run them interleaved. First what the operations are (System) and the laws
-- of their footprints (Laws); then whole calls, one after another; then tasks, what a call may do (Move), and runs of calls (Run).
-- Assumes nothing.
use Rattle.std.specs.Prelude.{ℕ, zero, suc, ◌<◌, ◌≤◌, ◌≡◌, ◌⊎◌, Bool, true, false, cond, List, [], ◌∷◌, ◌++◌, map}

-- ---- the operations

pub record System : Type 1 where
  pub State : Type 0
  pub Cell : Type 0
  pub Byte : Type 0
  pub Shape : Type 0
  pub Op : Type 0
  pub Held : Type 0
  pub Answer : Type 0
  pub Store : Type 0
  -- a state: what stands in each cell, and what no store changes; which states there are
  pub at : State → Cell → Byte
  pub shape : State → Shape
  pub Good : State → Type 0
  -- how many accesses an operation makes, and what it holds before the first
  pub total : Op → ℕ
  pub nothing : Held
  -- access k, from what is held before it: what is held after it, and the stores it makes (none, where it is a load)
  pub load : Op → ℕ → Held → State → Held
  pub stores : Op → ℕ → Held → List Store
  pub put : Store → State → State
  -- the answer, from what is held after the last
  pub answer : Op → Held → Answer
  -- the cells of its whole access units; whether it writes; whether it carries the lock rule
  pub Touch : Op → Cell → Type 0
  pub Writes : Op → Type 0
  pub Lock : Op → Type 0

module _ (S : System) where
  open S use {State, Cell, Op, Held, Answer, Store, at, shape, Good, total, nothing, load, stores, put, answer, Touch, Writes, Lock}

  abbrev pub put_all : List Store → State → State
  put_all [] s = s
  put_all (x ∷ xs) s = put_all xs (put x s)

  -- two states of one shape that agree on what an operation touches
  pub record Agree (o : Op) (s t : State) : Type 0 where
    pub same : shape s ≡ shape t
    pub on : (c : Cell) → Touch o c → at s c ≡ at t c

  -- the laws of footprints
  pub record Laws : Type 0 where
    -- a state is its cells
    pub ext : (s t : State) → Good s → Good t → shape s ≡ shape t → ((c : Cell) → at s c ≡ at t c) → s ≡ t
    pub touch? : (o : Op) (c : Cell) → Dec (Touch o c)
    pub writes? : (o : Op) → Dec (Writes o)
    pub keeps : (x : Store) (s : State) → shape (put x s) ≡ shape s
    pub good : (x : Store) (s : State) → Good s → Good (put x s)
    -- outside its footprint an access changes nothing
    pub frame : (o : Op) (k : ℕ) (h : Held) (s : State) → Good s → (c : Cell) → (Touch o c → ⊥) → at (put_all (stores o k h) s) c ≡ at s c
    -- an operation that does not write makes no store
    pub quiet : (o : Op) (k : ℕ) (h : Held) → (Writes o → ⊥) → stores o k h ≡ []
    -- from states that agree on its footprint an access holds the same, and leaves the same there
    pub local_held : (o : Op) (k : ℕ) (h : Held) (s t : State) → Agree o s t → load o k h s ≡ load o k h t
    pub local_at : (o : Op) (k : ℕ) (h : Held) (s t : State) → Agree o s t → (c : Cell) → Touch o c
        → at (put_all (stores o k h) s) c ≡ at (put_all (stores o k h) t) c

  -- ---- whole calls

  -- the first k accesses of an operation, one after the other: what is held then, and the state
  abbrev pub first : Op → ℕ → State → Held × State
  first o zero s = (nothing, s)
  first o (suc k) s = (load o k (first o k s).0 (first o k s).1, put_all (stores o k (first o k s).0) (first o k s).1)

  abbrev pub whole_answer : Op → State → Answer
  whole_answer o s = answer o (first o (total o) s).0

  abbrev pub whole_state : Op → State → State
  whole_state o s = (first o (total o) s).1

  -- operations run whole, one after another
  abbrev pub state_after : List Op → State → State
  state_after [] s = s
  state_after (o ∷ os) s = state_after os (whole_state o s)

  abbrev pub answers_of : List Op → State → List Answer
  answers_of [] s = []
  answers_of (o ∷ os) s = whole_answer o s ∷ answers_of os (whole_state o s)

  -- ---- tasks

  -- what it runs, how many accesses it has made, what it holds, and the stores it has made since its start
  pub record Slot : Type 0 where
    pub busy : Bool
    pub op : Op
    pub made : ℕ
    pub held : Held
    pub done : List Store

  -- an operation that ended, and what it answered
  pub record Ended : Type 0 where
    pub op : Op
    pub got : Answer

  -- the tasks, the state, and the ended operations in the order in which they finished
  pub record Conf : Type 0 where
    pub slots : ℕ → Slot
    pub state : State
    pub log : List Ended

  abbrev pub Busy : Slot → Type 0
  Busy x = x.busy ≡ true

  -- under way, with an access made
  abbrev pub Active : Slot → Type 0
  Active x = Busy x × (0 < x.made)

  abbrev pub ops_of : List Ended → List Op
  ops_of l = map (λ (e : Ended). e.op) l

  abbrev pub got_of : List Ended → List Answer
  got_of l = map (λ (e : Ended). e.got) l

  -- The premise, at one moment: any two operations under way together that touch a common cell, one of them writing, both carry the lock rule.
  abbrev pub Apart : (ℕ → Slot) → Type 0
  Apart t =
      (i j : ℕ) → (i ≡ j → ⊥) → Busy (t i) → Busy (t j)
      → (c : Cell) → Touch (t i).op c → Touch (t j).op c
      → Writes (t i).op ⊎ Writes (t j).op
      → Lock (t i).op × Lock (t j).op

  -- ---- what a call may do

  abbrev pub begun : Op → Slot
  begun o = record { busy = true; op = o; made = 0; held = nothing; done = [] }

  -- the next access of a task: its stores, and what is held after it
  abbrev pub stores_now : Slot → List Store
  stores_now x = stores x.op x.made x.held

  abbrev pub held_next : Slot → State → Held
  held_next x s = load x.op x.made x.held s

  abbrev pub advanced : Slot → State → Slot
  advanced x s = record { busy = true; op = x.op; made = suc x.made; held = held_next x s; done = x.done ++ stores_now x }

  abbrev pub finishes : Slot → State → Ended
  finishes x s = record { op = x.op; got = answer x.op (held_next x s) }

  -- no task changes but i
  abbrev pub Others : (ℕ → Slot) → (ℕ → Slot) → ℕ → Type 0
  Others t u i = (j : ℕ) → (j ≡ i → ⊥) → u j ≡ t j

  -- Task i makes its next access. Of the lock only this is asked: a lock-rule task makes its first access while no other has one made.
  pub record NextAccess (c d : Conf) (i : ℕ) : Type 0 where
    pub busy : Busy (c.slots i)
    pub others : Others c.slots d.slots i
    pub state : d.state ≡ put_all (stores_now (c.slots i)) c.state
    pub free : (c.slots i).made ≡ 0 → Lock (c.slots i).op → (j : ℕ) → (j ≡ i → ⊥) → Active (c.slots j) → Lock (c.slots j).op → ⊥

  -- refused; an accepted start; an accepted step that is not the last; the last
  pub data Move (c d : Conf) : Type 0 where
    stay : ((j : ℕ) → d.slots j ≡ c.slots j) → d.state ≡ c.state → d.log ≡ c.log → Move c d
    begin : (i : ℕ) (o : Op) → (c.slots i).busy ≡ false → Others c.slots d.slots i → d.slots i ≡ begun o → d.state ≡ c.state
        → d.log ≡ c.log → Move c d
    more : (i : ℕ) → NextAccess c d i → d.slots i ≡ advanced (c.slots i) c.state → d.log ≡ c.log → Move c d
    last : (i : ℕ) → NextAccess c d i → (d.slots i).busy ≡ false → suc (c.slots i).made ≡ total (c.slots i).op
        → d.log ≡ c.log ++ (finishes (c.slots i) c.state ∷ []) → Move c d

  -- ---- runs

  -- moves from c, with P at every moment
  pub data Run (P : (ℕ → Slot) → Type 0) (c : Conf) : Conf → Type 0 where
    here : P c.slots → Run P c c
    then : {d e : Conf} → Run P c d → Move d e → P e.slots → Run P c e

  -- idle tasks, nothing ended
  abbrev pub Fresh : Conf → Type 0
  Fresh c = ((i : ℕ) → (c.slots i).busy ≡ false) × (c.log ≡ [])

  -- the stores that those of tasks 0 to n - 1 that are under way have made, task by task
  abbrev pub overlay : (ℕ → Slot) → ℕ → State → State
  overlay t zero s = s
  overlay t (suc n) s = cond (t n).busy (put_all (t n).done (overlay t n s)) (overlay t n s)

  -- ---- the claims

  -- After any number of calls the state is that of the ended operations run whole, in the order in which they finished, and then the stores of
  -- those under way; and every answer is that of the whole calls.
  abbrev pub AtEveryMoment : Type 0
  AtEveryMoment =
      (n : ℕ) (c d : Conf) → Good c.state → Fresh c → Run Apart c d → ((j : ℕ) → n ≤ j → (d.slots j).busy ≡ false)
      → (d.state ≡ overlay d.slots n (state_after (ops_of d.log) c.state))
      × (got_of d.log ≡ answers_of (ops_of d.log) c.state)

  -- once all have ended
  abbrev pub OnceAllEnded : Type 0
  OnceAllEnded =
      (c d : Conf) → Good c.state → Fresh c → Run Apart c d → ((j : ℕ) → (d.slots j).busy ≡ false)
      → (d.state ≡ state_after (ops_of d.log) c.state) × (got_of d.log ≡ answers_of (ops_of d.log) c.state)
