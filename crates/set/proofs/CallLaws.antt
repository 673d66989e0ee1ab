-- The calls, test by test.
-- Assumes nothing.
use Rattle.std.specs.Prelude.{Ok, Err}
use mathlib.Core.Path.{◌≡◌, sym, ap, ◌∙◌}
use mathlib.Core.Bool.{true, false}
use mathlib.Core.List.{List, [], ◌∷◌, ◌++◌, append-nil}
use Prim.Native.Nat.{ℕ, ◌+◌, ◌<◌, ◌≤◌}
use native.Mathlib.Omega.{arith}
use lib.ListN.{length, take, drop, length-take, length-replicate, drop_of_length-le}
use borrow.Author.Tests.{lt-ltb, le-ltb, eq-eqb, ne_eqb}
use Rattle.answer.specs.Answers.{numbers_of, Answer}
use Rattle.answer.specs.declared.counts.Counts.{Counts}
use Rattle.answer.specs.declared.refusal.Why.TheVariants.{NotWellFormed, NoSuchPlace, TooManyDeclarations}
use Rattle.answer.specs.declared.refusal.Refusal.{Refusal}
use Rattle.answer.specs.declared.refusal.Fault.{Fault}
use Rattle.answer.specs.Limits.{no_counts}
use Rattle.answer.specs.Places.{placed}
use Rattle.ground.specs.Bytes.{store}
use Rattle.ground.proofs.Laws.{store_fits}
use Rattle.row.specs.Layout.{declaration_limit, layout_length}
use Rattle.row.specs.Rows.{Row, texts}
use Rattle.row.specs.Sets.{flat, zeros, encode, decode, count_in}
use Rattle.row.specs.Memory.{set_counts}
use Rattle.row.proofs.Laws.{encode_none, decode_encode, count_encode}
use Rattle.formed.specs.WellFormed.{Good, well_formed}
use Rattle.formed.proofs.Laws.{cut_good, good_within, encode_good}
use Rattle.schema.specs.Out.{Out, Walked}
use Rattle.schema.specs.Schema.{declared}
use Rattle.set.specs.Lists.{Result, refuses, refuse, next, on_rows, append, append_all, put_in}
use Rattle.set.specs.Calls.{answer_of, memory_of, on_set, opened, put}
use Rattle.set.specs.Steps.{Drafted, IsDraft, Wrote, Ended}
use Rattle.set.proofs.Places.{is_good, is_long, is_count}
use Rattle.set.proofs.Appends.{ended_no, ended_done, ended_as, told_no, told_done}
use Rattle.set.proofs.Accepts.{Stepped, stepped}
use Rattle.set.proofs.Drafts.{read_not, read_rows, is_draft}
use Rattle.set.proofs.Ends.{append_last}

-- what a public call promises, of what its parts did
pub both : {m m' : List ℕ} {r : Answer Counts} {x : Result} → Ended m m' r x → (numbers_of r ≡ answer_of x) × (m' ≡ memory_of m x)
both d = (d.answer, d.memory)

-- of a refusal
no_both : (m : List ℕ) {r : Answer Counts} {s : Refusal} {x : Result} → r ≡ Err s → x ≡ refuses s → (numbers_of r ≡ answer_of x) × (m ≡ memory_of m x)
no_both m {s = s} g e = let d = ended_no m s e in (ap numbers_of g ∙ d.answer, d.memory)

-- ---- open

module _ (m : List ℕ) where
  pub open_not : (length m ≡ layout_length → ⊥) → {r : Answer Counts} → r ≡ Err (record { why = NotWellFormed; place = 0; at = 0 }) → (numbers_of r ≡ answer_of (opened m)) × (m ≡ memory_of m (opened m))
  unfolding opened
  open_not h g = no_both m g (rw (ne_eqb (length m) layout_length h))

  pub open_done : length m ≡ layout_length → {c : Counts} {m' : List ℕ} → c ≡ no_counts → m' ≡ zeros (length m) → (numbers_of (Ok c) ≡ answer_of (opened m)) × (m' ≡ memory_of m (opened m))
  unfolding opened set_counts flat texts
  open_done h p q = both (ended_done m [] (rw (eq-eqb (length m) layout_length h)) p (q ∙ ap zeros h ∙ sym encode_none))

-- ---- put, by whether memory is well formed

pub put_unformed : (m : List ℕ) → well_formed m ≡ false → (place : ℕ) (t : List ℕ) → put m place t ≡ refuse NotWellFormed place 0
unfolding put on_set
put_unformed m w place t = rw w

pub put_formed : (m : List ℕ) → well_formed m ≡ true → (place : ℕ) (t : List ℕ) → put m place t ≡ put_in (decode m) place t
unfolding put on_set
put_formed m w place t = rw w

-- ---- rows put before the last declaration's end

stored : (m o : List ℕ) → length m ≡ length o → store m 0 o ≡ o
stored m o e =
    let k : 0 + length o ≤ length m = omega arith in
    let l : length m ≤ 0 + length o = omega arith in
    store_fits m 0 o k ∙ ap (λ (x : List ℕ). o ++ x) (drop_of_length-le m l) ∙ append-nil o

-- what became of scratch memory, for which the answer is a, becomes of memory
module _ (m out : List ℕ) {a : Answer Counts} where
  pub settle_no : (r : Refusal) → a ≡ Err r → (x : Result) → Ended out out a x → Ended m m (Err r) x
  settle_no r g x d = ended_no m r (told_no x d.answer g)

  pub settle_done : (c : Counts) → a ≡ Ok c → length m ≡ length out → {m' : List ℕ} → m' ≡ store m 0 out → (x : Result) → Ended out out a x → Ended m m' (Ok c) x
  unfolding memory_of
  settle_done c g e p x d =
      let t = told_done x d.answer g in
      ended_done m t.0 t.1 t.2 (p ∙ stored m out e ∙ d.memory ∙ ap (memory_of out) t.1)

-- out is a copy of m
module _ (m : List ℕ) (w : well_formed m ≡ true) (z : List ℕ) (empty : z ≡ zeros layout_length) {out : List ℕ} (b : out ≡ store z 0 m) where
  copy_is : out ≡ m
  copy_is = b ∙ stored z m (ap length empty ∙ length-replicate {A = ℕ} layout_length 0 ∙ sym (is_long m w))

  pub copied_asks : count_in m < declaration_limit → (well_formed out ≡ true) × (count_in out < declaration_limit)
  copied_asks l = (ap well_formed copy_is ∙ w, omega (arith, ap count_in copy_is))

  -- rows were appended to it
  pub copied_settled : (out₁ : List ℕ) {draft : List ℕ} {n bytes : ℕ} {a r : Answer Counts} {m' : List ℕ} → ((rows : List Row) → Drafted draft 0 n bytes rows → Ended out₁ out₁ a (append (decode out) rows))
      → ((x : Result) → Ended out₁ out₁ a x → Ended m m' r x)
      → (rows : List Row) → Drafted draft 0 n bytes rows → Ended m m' r (append (decode m) rows)
  copied_settled out₁ did settles rows d = ended_as (ap (λ (x : List ℕ). append (decode x) rows) (sym copy_is)) (settles _ (did rows d))

-- out holds the declarations of m before the place
module _ (m : List ℕ) (w : well_formed m ≡ true) (place : ℕ) (l : place < count_in m) (out : List ℕ) (b : out ≡ encode (take place (decode m))) where
  before_good : Good (take place (decode m))
  before_good = cut_good (decode m) place (is_good m w)

  pub before_well : well_formed out ≡ true
  before_well = ap well_formed b ∙ encode_good (take place (decode m)) before_good

  before_decode : decode out ≡ take place (decode m)
  before_decode = ap decode b ∙ decode_encode (take place (decode m)) (good_within (take place (decode m)) before_good)

  before_count : count_in out ≡ place
  before_count = ap count_in b ∙ count_encode (take place (decode m)) (good_within (take place (decode m)) before_good) ∙ length-take place (decode m) ∙ omega (arith, is_count m w)

  before_few : count_in out < declaration_limit
  before_few = omega (arith, before_count, is_count m w, (is_good m w).few)

  -- n and bytes stand for the rows in a draft
  module _ (draft : List ℕ) (n bytes : ℕ) where
    pub draft_asks : IsDraft draft 0 n bytes → (well_formed out ≡ true) × (count_in out < declaration_limit) × IsDraft draft 0 n bytes
    draft_asks d = (before_well, before_few, d)

    module _ (a : Answer Counts) (out₁ : List ℕ) (did : (rows : List Row) → Drafted draft 0 n bytes rows → Ended out₁ out₁ a (append (decode out) rows)) where
      opens : (rows : List Row) → append_all (take place (decode m)) (rows ∷ drop (place + 1) (decode m)) ≡ next (append (decode out) rows) (λ longer. append_all longer (drop (place + 1) (decode m)))
      unfolding append_all
      opens rows = rw before_decode

      pub inside_first : (r : Refusal) → a ≡ Err r → (rows : List Row) → Drafted draft 0 n bytes rows
          → Ended m m (Err r) (append_all (take place (decode m)) (rows ∷ drop (place + 1) (decode m)))
      inside_first r g rows d = ended_no m r (opens rows ∙ rw (told_no (append (decode out) rows) (did rows d).answer g))

      module _ (c : Counts) (g : a ≡ Ok c) where
        step : (rows : List Row) → Drafted draft 0 n bytes rows → Stepped out rows out₁
        step rows d = stepped before_well before_few d.kept (did rows d) g

        pub behind_asks : IsDraft draft 0 n bytes → (well_formed out₁ ≡ true) × (well_formed m ≡ true) × (count_in out₁ ≡ place + 1) × (place + 1 ≤ count_in m)
        behind_asks d =
            let s : Stepped out d.rows out₁ = step d.rows d.drafted in
            (s.well, w, s.more ∙ ap (λ (i : ℕ). i + 1) before_count, omega arith)

        behind : (rows : List Row) → Drafted draft 0 n bytes rows → append_all (take place (decode m)) (rows ∷ drop (place + 1) (decode m)) ≡ append_all (decode out₁) (drop (place + 1) (decode m))
        behind rows d = opens rows ∙ rw (step rows d).ok

        pub inside_settled : (out₂ : List ℕ) {y r : Answer Counts} {m' : List ℕ} → Ended out₂ out₂ y (append_all (decode out₁) (drop (place + 1) (decode m)))
            → ((x : Result) → Ended out₂ out₂ y x → Ended m m' r x)
            → (rows : List Row) → Drafted draft 0 n bytes rows → Ended m m' r (append_all (take place (decode m)) (rows ∷ drop (place + 1) (decode m)))
        inside_settled out₂ rest settles rows d = ended_as (behind rows d) (settles _ rest)

-- ---- put

module _ (m : List ℕ) (w : well_formed m ≡ true) (place : ℕ) {n : ℕ} (e : n ≡ count_in m) where
  pub last_rows : n ≤ place → {d : List ℕ} {k bytes : ℕ} {r : Answer Counts} {m' : List ℕ} → ((rows : List Row) → Drafted d 0 k bytes rows → Ended m m' r (append (decode m) rows))
      → (rows : List Row) → Drafted d 0 k bytes rows → Ended m m' r (append_all (take place (decode m)) (rows ∷ drop (place + 1) (decode m)))
  last_rows h end rows d = ended_as (append_last (decode m) place rows (omega (arith, is_count m w))) (end rows d)

module _ (m : List ℕ) (place : ℕ) (t : List ℕ) where
  pub put_not : well_formed m ≡ false → {r : Answer Counts} → r ≡ Err (record { why = NotWellFormed; place = place; at = 0 }) → (numbers_of r ≡ answer_of (put m place t)) × (m ≡ memory_of m (put m place t))
  put_not w g = no_both m g (put_unformed m w place t)

  module _ (w : well_formed m ≡ true) (n : ℕ) (e : n ≡ count_in m) where
    pub put_nowhere : n < place → {r : Answer Counts} → r ≡ Err (record { why = NoSuchPlace; place = place; at = 0 }) → (numbers_of r ≡ answer_of (put m place t)) × (m ≡ memory_of m (put m place t))
    unfolding put_in
    put_nowhere h g = no_both m g (put_formed m w place t ∙ rw (← is_count m w, ← e, lt-ltb n place h))

    module _ (l : place ≤ n) where
      pub put_many : declaration_limit ≤ place → {r : Answer Counts} → r ≡ Err (record { why = TooManyDeclarations; place = declaration_limit; at = 0 })
          → (numbers_of r ≡ answer_of (put m place t)) × (m ≡ memory_of m (put m place t))
      unfolding put_in
      put_many h g =
          let k : declaration_limit < place + 1 = omega arith in
          no_both m g (put_formed m w place t ∙ rw (← is_count m w, ← e, le-ltb n place l, lt-ltb declaration_limit (place + 1) k))

      module _ (few : place < declaration_limit) where
        put_is : put m place t ≡ on_rows (declared t) place (λ rows. append_all (take place (decode m)) (rows ∷ drop (place + 1) (decode m)))
        unfolding put_in
        put_is =
            let k : place + 1 ≤ declaration_limit = omega arith in
            put_formed m w place t ∙ rw (← is_count m w, ← e, le-ltb n place l, le-ltb declaration_limit (place + 1) k)

        module _ {d : List ℕ} {walked : Walked} (did : Wrote d walked (declared t)) where
          pub put_bad : {f : Fault} → walked ≡ Err f → {r : Refusal} → r ≡ placed f place → (numbers_of (Err r) ≡ answer_of (put m place t)) × (m ≡ memory_of m (put m place t))
          put_bad h g = no_both m (ap Err g) (put_is ∙ rw (read_not (declared t) did h))

          pub put_asks : (c : Counts) → walked ≡ Ok c → (well_formed m ≡ true) × (place ≤ count_in m) × (place < declaration_limit) × IsDraft d 0 c.rows c.string_bytes
          put_asks c h = (w, omega arith, few, is_draft (declared t) did h)

          pub put_read : (c : Counts) → walked ≡ Ok c → {r : Answer Counts} {m' : List ℕ}
              → ((rows : List Row) → Drafted d 0 c.rows c.string_bytes rows → Ended m m' r (append_all (take place (decode m)) (rows ∷ drop (place + 1) (decode m))))
              → (numbers_of r ≡ answer_of (put m place t)) × (m' ≡ memory_of m (put m place t))
          put_read c h end =
              let x = read_rows (declared t) did h in
              both (ended_as (put_is ∙ ap (λ (o : Out). on_rows o place (λ rows. append_all (take place (decode m)) (rows ∷ drop (place + 1) (decode m)))) x.1) (end x.0 x.2))
