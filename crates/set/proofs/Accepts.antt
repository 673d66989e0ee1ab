-- One declaration more, with 47: its defaults are asked behind the tests of join, in the memory that holds it.
-- Assumes nothing.
use Rattle.std.specs.Prelude.{Ok, Err}
use mathlib.Core.Path.{◌≡◌, refl, sym, ap, ap₂, ◌∙◌}
use mathlib.Core.Bool.{Bool, true, false, cond}
use mathlib.Core.List.{List, [], ◌∷◌, ◌++◌}
use Prim.Native.Nat.{ℕ, ◌+◌, ◌<◌, ◌≤◌}
use native.Mathlib.Omega.{arith}
use lib.Dec.{ltb}
use lib.ListN.{length, take, drop, length-append}
use lib.Seq.{take_all, drop-append_seam}
use borrow.Author.Tests.{ltb-false}
use Rattle.answer.specs.declared.counts.Counts.{Counts}
use Rattle.answer.specs.declared.refusal.Why.TheVariants.{TooManyRows, TooManyStringBytes}
use Rattle.answer.specs.declared.refusal.Refusal.{Refusal}
use Rattle.answer.specs.declared.refusal.Fault.{Fault}
use Rattle.answer.specs.Places.{placed}
use Rattle.row.specs.Layout.{declaration_limit, row_limit, string_limit, layout_length}
use Rattle.row.specs.Rows.{Row, texts}
use Rattle.row.specs.Sets.{flat, encode, decode, count_in, rows_from, Within}
use Rattle.row.specs.Memory.{counts_in, set_counts}
use Rattle.row.proofs.Laws.{decode_encode, count_encode, length_encode, rows_encode}
use Rattle.resolve.specs.Rules.{some, is_declaration}
use Rattle.resolve.specs.Resolve.{Resolution, fault_in}
use Rattle.fits.specs.Types.{has_default}
use Rattle.fits.specs.Misfits.{misfit_in}
use Rattle.fits.proofs.MisfitLaws.{none_fit}
use Rattle.formed.specs.WellFormed.{Good, well_formed}
use Rattle.formed.proofs.Laws.{good_within, encode_good, more_within, more_good}
use Rattle.set.specs.Lists.{Result, becomes, refuses, refuse, next, append, on_resolved}
use Rattle.set.specs.Calls.{memory_of}
use Rattle.set.specs.Steps.{joined, Drafted, IsDraft, Ended}
use Rattle.set.proofs.Places.{is_good, is_count}
use Rattle.set.proofs.Appends.{ended_no, ended_done, ended_as, ended_by, told_no, told_done, flat_more, rows_more, places_are, rows_are}
use Rattle.answer.specs.Answers.{Answer}

-- ---- what becomes of a set

module _ (ds : List (List Row)) (rows : List Row) where
  abbrev count : ℕ
  count = length (flat ds) + length rows

  abbrev bytes : ℕ
  bytes = length (texts (flat ds)) + length (texts rows)

  -- 47 behind the rest
  pub append_joined : append ds rows ≡ next (joined ds rows) (λ longer. on_resolved (misfit_in (flat ds ++ rows) rows) (length ds) (becomes longer))
  unfolding append joined
  append_joined = go (ltb row_limit count) (ltb string_limit bytes) (fault_in (flat ds) rows) (misfit_in (flat ds ++ rows) rows)
    where
      go : (a b : Bool) (f g : Resolution)
          → cond a (refuse TooManyRows (length ds) 0) (cond b (refuse TooManyStringBytes (length ds) 0) (on_resolved f (length ds) (on_resolved g (length ds) (becomes (ds ++ (rows ∷ []))))))
          ≡ next (cond a (refuse TooManyRows (length ds) 0) (cond b (refuse TooManyStringBytes (length ds) 0) (on_resolved f (length ds) (becomes (ds ++ (rows ∷ [])))))) (λ longer. on_resolved g (length ds) (becomes longer))
      go true b f g = refl
      go false true f g = refl
      go false false (Err x) g = refl
      go false false (Ok _) g = refl

  -- a declaration that joined
  record Joined (d : List (List Row)) : Type 0 where
    fit : length (flat ds) + length rows ≤ row_limit
    room : length (texts (flat ds)) + length (texts rows) ≤ string_limit
    resolved : fault_in (flat ds) rows ≡ Ok tt
    is : d ≡ ds ++ (rows ∷ [])

  joins : (d : List (List Row)) → joined ds rows ≡ becomes d → Joined d
  unfolding joined
  joins d e = go (ltb row_limit count) (ltb string_limit bytes) (fault_in (flat ds) rows) refl refl refl e
    where
      go : (a b : Bool) (f : Resolution) → ltb row_limit count ≡ a → ltb string_limit bytes ≡ b → fault_in (flat ds) rows ≡ f
          → cond a (refuse TooManyRows (length ds) 0) (cond b (refuse TooManyStringBytes (length ds) 0) (on_resolved f (length ds) (becomes (ds ++ (rows ∷ []))))) ≡ becomes d → Joined d
      go true b f p q r x = let z : ◌≡◌ {A = ℕ} 0 1 = cc in absurd (omega arith)
      go false true f p q r x = let z : ◌≡◌ {A = ℕ} 0 1 = cc in absurd (omega arith)
      go false false (Err y) p q r x = let z : ◌≡◌ {A = ℕ} 0 1 = cc in absurd (omega arith)
      go false false (Ok _) p q r x = record { fit = ltb-false row_limit count p; room = ltb-false string_limit bytes q; resolved = r; is = cc }

  -- and one that was accepted
  record Accepted (d : List (List Row)) : Type 0 where
    joins : Joined d
    fitting : misfit_in (flat ds ++ rows) rows ≡ Ok tt

  accepted : (d : List (List Row)) → append ds rows ≡ becomes d → Accepted d
  accepted d e = go (joined ds rows) (misfit_in (flat ds ++ rows) rows) refl refl (sym append_joined ∙ e)
    where
      go : (x : Result) (f : Resolution) → joined ds rows ≡ x → misfit_in (flat ds ++ rows) rows ≡ f → next x (λ longer. on_resolved f (length ds) (becomes longer)) ≡ becomes d → Accepted d
      go (refuses r) f p q x = let z : ◌≡◌ {A = ℕ} 0 1 = cc in absurd (omega arith)
      go (becomes l) (Err y) p q x = let z : ◌≡◌ {A = ℕ} 0 1 = cc in absurd (omega arith)
      go (becomes l) (Ok _) p q x = record { joins = joins d (p ∙ x); fitting = q }

-- ---- the tests of append: n and bytes stand for rows in `from`, and join answered a and left m' of m

module _ (m «from» : List ℕ) (start n bytes : ℕ) (a : Answer Counts) (m' : List ℕ) (did : (rows : List Row) → Drafted «from» start n bytes rows → Ended m m' a (joined (decode m) rows)) where
  pub append_refused : {r : Refusal} → a ≡ Err r → (rows : List Row) → Drafted «from» start n bytes rows → Ended m' m' a (append (decode m) rows)
  append_refused {r} g rows d = ended_by (sym g) (ended_no m' r (append_joined (decode m) rows ∙ rw (told_no (joined (decode m) rows) (did rows d).answer g)))

  -- c counts the set that m holds
  module _ (w : well_formed m ≡ true) (free : count_in m < declaration_limit) (c : Counts) (e : c ≡ counts_in m) where
    module _ {k : Counts} (g : a ≡ Ok k) where
      module _ (rows : List Row) (d : Drafted «from» start n bytes rows) where
        told : (l : List (List Row)) × (joined (decode m) rows ≡ becomes l) × (k ≡ set_counts l)
        told = told_done (joined (decode m) rows) (did rows d).answer g

        made : Joined (decode m) rows told.0
        made = joins (decode m) rows told.0 told.1

        within : Within (decode m ++ (rows ∷ []))
        within = more_within (decode m) rows (is_good m w) (omega (arith, is_count m w)) made.fit made.room d.kept

        holds : m' ≡ encode (decode m ++ (rows ∷ []))
        unfolding memory_of
        holds = (did rows d).memory ∙ ap (memory_of m) told.1 ∙ ap encode made.is

        own : n ≡ length rows
        own = omega (arith, d.counted, made.fit)

        ends : c.rows + n ≡ length (flat (decode m ++ (rows ∷ [])))
        ends = omega (arith, own, rows_are m w c e, rows_more (decode m) rows within)

        all_rows : rows_from m' (c.rows + n) 0 ≡ flat (decode m) ++ rows
        all_rows =
            ap₂ (λ (x : List ℕ) (i : ℕ). rows_from x i 0) holds ends
            ∙ rows_encode (decode m ++ (rows ∷ [])) within (length (flat (decode m ++ (rows ∷ [])))) 0 (omega arith)
            ∙ take_all (length (flat (decode m ++ (rows ∷ [])))) (flat (decode m ++ (rows ∷ []))) (omega arith) ∙ flat_more (decode m) rows within

        own_rows : rows_from m' n c.rows ≡ rows
        own_rows =
            ap (λ (x : List ℕ). rows_from x n c.rows) holds ∙ rows_encode (decode m ++ (rows ∷ [])) within n c.rows (omega (arith, ends))
            ∙ ap₂ (λ (i : ℕ) (x : List Row). take n (drop i x)) (rows_are m w c e) (flat_more (decode m) rows within)
            ∙ ap (take n) (drop-append_seam (flat (decode m)) rows) ∙ take_all n rows (omega (arith, own))

        long : length m' ≡ layout_length
        long = ap length holds ∙ length_encode (decode m ++ (rows ∷ [])) within

      -- what first_misfit asks
      pub misfit_asks : IsDraft «from» start n bytes → (length m' ≡ layout_length) × (c.rows + n ≤ row_limit)
      misfit_asks d =
          (long d.rows d.drafted, omega (arith, own d.rows d.drafted, rows_are m w c e, (made d.rows d.drafted).fit))

      module _ (f : Resolution) (found : f ≡ misfit_in (rows_from m' (c.rows + n) 0) (rows_from m' n c.rows)) where
        tested : (rows : List Row) (d : Drafted «from» start n bytes rows) → append (decode m) rows ≡ on_resolved f (length (decode m)) (becomes (told rows d).0)
        tested rows d =
            let h : f ≡ misfit_in (flat (decode m) ++ rows) rows = found ∙ ap₂ misfit_in (all_rows rows d) (own_rows rows d) in
            append_joined (decode m) rows ∙ rw ((told rows d).1, ← h)

        pub append_misfit : {x : Fault} → f ≡ Err x → (rows : List Row) → Drafted «from» start n bytes rows → {r : Refusal} → r ≡ placed x c.declarations
            → Ended m' m' (Err r) (append (decode m) rows)
        append_misfit b rows d h = rw h (ended_no m' _ (tested rows d ∙ rw (b, places_are m w c e)))

        pub append_done : f ≡ Ok tt → (rows : List Row) → Drafted «from» start n bytes rows → Ended m' m' (Ok k) (append (decode m) rows)
        append_done b rows d = ended_done m' (told rows d).0 (tested rows d ∙ rw b) (told rows d).2 (holds rows d ∙ ap encode (sym (made rows d).is))

-- ---- memory behind a declaration that was accepted

pub record Stepped (o : List ℕ) (rows : List Row) (o' : List ℕ) : Type 0 where
  pub ok : append (decode o) rows ≡ becomes (decode o')
  pub well : well_formed o' ≡ true
  pub more : count_in o' ≡ count_in o + 1

pub stepped : {o o' : List ℕ} {rows : List Row} {a : Answer Counts} {c : Counts} → well_formed o ≡ true → count_in o < declaration_limit → is_declaration rows ≡ true
    → Ended o' o' a (append (decode o) rows) → a ≡ Ok c → Stepped o rows o'
unfolding memory_of
stepped {o} {o'} {rows} {a} {c} w l g e f =
    let t = told_done (append (decode o) rows) e.answer f in
    let d : List (List Row) = t.0 in
    let x : append (decode o) rows ≡ becomes d = t.1 in
    let y : Accepted (decode o) rows d = accepted (decode o) rows d x in
    let b : o' ≡ encode d = e.memory ∙ ap (memory_of o') x in
    let n : count_in o ≡ length (decode o) = is_count o w in
    let h : Good d = rw y.joins.is (more_good (decode o) rows (is_good o w) (omega arith) y.joins.fit y.joins.room g y.joins.resolved y.fitting) in
    let k : decode o' ≡ d = ap decode b ∙ decode_encode d (good_within d h) in
    record {
      ok = x ∙ ap becomes (sym k);
      well = ap well_formed b ∙ encode_good d h;
      more = ap count_in b ∙ count_encode d (good_within d h) ∙ ap length y.joins.is ∙ length-append (decode o) (rows ∷ []) ∙ ap (λ (i : ℕ). i + 1) (sym n);
    }

-- ---- rows without a default: to join is enough

module _ (draft : List ℕ) (n bytes : ℕ) {b : Bool} (asked : n ≤ row_limit → b ≡ some has_default (rows_from draft n 0)) (none : b ≡ false) where
  join_alone : (ds : List (List Row)) (rows : List Row) → Drafted draft 0 n bytes rows → append ds rows ≡ joined ds rows
  join_alone ds rows d = append_joined ds rows ∙ go (joined ds rows) refl
    where
      go : (x : Result) → joined ds rows ≡ x → next x (λ longer. on_resolved (misfit_in (flat ds ++ rows) rows) (length ds) (becomes longer)) ≡ x
      go (refuses r) p = refl
      go (becomes l) p =
          let j : Joined ds rows l = joins ds rows l p in
          let h : n ≤ row_limit = omega (arith, d.counted, j.fit) in
          let k : rows_from draft n 0 ≡ rows = (d.fits h (omega (arith, d.strings, j.room))).1 in
          rw (none_fit (flat ds ++ rows) rows (ap (some has_default) (sym k) ∙ sym (asked h) ∙ none))

  pub joined_last : {m m' : List ℕ} {r : Answer Counts} (ds : List (List Row)) → ((rows : List Row) → Drafted draft 0 n bytes rows → Ended m m' r (joined ds rows))
      → (rows : List Row) → Drafted draft 0 n bytes rows → Ended m m' r (append ds rows)
  joined_last ds did rows d = ended_as (join_alone ds rows d) (did rows d)
