-- One declaration more, but for 47: its rows written behind those of a set, and the four tests before that.
-- Assumes nothing.
use Rattle.std.specs.Prelude.{Ok, Err}
use mathlib.Core.Path.{◌≡◌, refl, sym, ap, ap₂, ◌∙◌}
use mathlib.Core.Bool.{true, false}
use mathlib.Core.List.{List, [], ◌∷◌, ◌++◌, append-nil}
use Prim.Native.Nat.{ℕ, ◌+◌, ◌-◌, ◌<◌, ◌≤◌}
use native.Mathlib.Omega.{arith}
use lib.Dec.{ltb}
use lib.ListN.{length, length-append}
use borrow.Author.Tests.{lt-ltb, le-ltb}
use Rattle.answer.specs.Answers.{numbers_of, of_counts, Answer}
use Rattle.answer.proofs.Laws.{refusal_one, counts_one, never_both}
use Rattle.answer.specs.declared.counts.Counts.{Counts}
use Rattle.answer.specs.declared.refusal.Why.TheVariants.{TooManyRows, TooManyStringBytes}
use Rattle.answer.specs.declared.refusal.Refusal.{Refusal}
use Rattle.answer.specs.declared.refusal.Fault.{Fault}
use Rattle.answer.specs.Limits.{counts_of}
use Rattle.answer.specs.Places.{placed}
use Rattle.row.specs.Layout.{declaration_limit, row_limit, string_limit, layout_length}
use Rattle.row.specs.Rows.{Row, texts}
use Rattle.row.specs.Sets.{flat, encode, decode, count_in, rows_from, Within}
use Rattle.row.specs.Memory.{counts_in, set_counts, counted_all, pushed_all, declared}
use Rattle.row.proofs.RowLaws.{texts_append}
use Rattle.row.proofs.SetLaws.{flat_append}
use Rattle.row.proofs.Laws.{counted_small, append_encode}
use Rattle.resolve.specs.Resolve.{Resolution, fault_in}
use Rattle.formed.specs.WellFormed.{well_formed}
use Rattle.resolve.proofs.MemoryLaws.{length_rows}
use Rattle.formed.proofs.Laws.{more_within}
use Rattle.set.specs.Lists.{Result, becomes, refuses, on_resolved}
use Rattle.set.specs.Calls.{answer_of, memory_of}
use Rattle.set.specs.Steps.{counted_more, pushed_more, joined, Drafted, IsDraft, Ended}
use Rattle.set.proofs.Places.{is_encoded, is_good, is_long, is_count, is_counts, is_rows}

-- ---- what a call answers, and leaves in memory

pub ended_no : (m : List ℕ) (r : Refusal) {x : Result} → x ≡ refuses r → Ended m m (Err r) x
unfolding answer_of memory_of
ended_no m r e = record { answer = sym (ap answer_of e); memory = rw e }

pub ended_done : (m : List ℕ) (ds : List (List Row)) {x : Result} → x ≡ becomes ds → {c : Counts} {m' : List ℕ} → c ≡ set_counts ds → m' ≡ encode ds → Ended m m' (Ok c) x
unfolding answer_of memory_of
ended_done m ds e p q = record { answer = ap of_counts p ∙ sym (ap answer_of e); memory = rw (e, q) }

pub ended_as : {m m' : List ℕ} {r : Answer Counts} {x y : Result} → x ≡ y → Ended m m' r y → Ended m m' r x
ended_as e d = record { answer = d.answer ∙ ap answer_of (sym e); memory = d.memory ∙ ap (memory_of _) (sym e) }

-- the same of an equal answer
pub ended_by : {m m' : List ℕ} {a b : Answer Counts} {x : Result} → a ≡ b → Ended m m' a x → Ended m m' b x
ended_by e d = record { answer = ap numbers_of (sym e) ∙ d.answer; memory = d.memory }

-- ---- what an answer tells

pub told_no : (x : Result) {a : Answer Counts} {r : Refusal} → numbers_of a ≡ answer_of x → a ≡ Err r → x ≡ refuses r
unfolding answer_of
told_no (becomes d) {r = r} p q = absurd (never_both r _ _ _ (sym (ap numbers_of q) ∙ p))
told_no (refuses s) {r = r} p q = ap refuses (refusal_one s r (sym p ∙ ap numbers_of q))

pub told_done : (x : Result) {a : Answer Counts} {c : Counts} → numbers_of a ≡ answer_of x → a ≡ Ok c → (d : List (List Row)) × (x ≡ becomes d) × (c ≡ set_counts d)
unfolding answer_of
told_done (becomes d) {c = c} p q = (d, refl, counts_one c (set_counts d) (sym (ap numbers_of q) ∙ p))
told_done (refuses s) p q = absurd (never_both s _ _ _ (sym p ∙ ap numbers_of q))

-- ---- rows written

-- the function's own form: n rows of memory
pub pushes : (m «from» : List ℕ) (c : Counts) (start n : ℕ) {s : Counts} {m₁ m₂ : List ℕ} → s ≡ counted_all c (rows_from «from» n start) → m₁ ≡ pushed_all m c (rows_from «from» n start)
    → m₂ ≡ declared m₁ c.declarations n → {r : Counts} → r ≡ counts_of (c.declarations + 1) s.rows s.string_bytes
    → (r ≡ counted_more c (rows_from «from» n start)) × (m₂ ≡ pushed_more m c (rows_from «from» n start))
unfolding counted_more pushed_more
pushes m f c start n p q e g = (rw p at g, rw (e, q, length_rows f n start))

module _ (ds : List (List Row)) (d : List Row) (w : Within (ds ++ (d ∷ []))) where
  pub flat_more : flat (ds ++ (d ∷ [])) ≡ flat ds ++ d
  unfolding flat
  flat_more = flat_append ds (d ∷ []) ∙ ap (λ (x : List Row). flat ds ++ x) (append-nil d)

  pub rows_more : length (flat (ds ++ (d ∷ []))) ≡ length (flat ds) + length d
  rows_more = ap length flat_more ∙ length-append (flat ds) d

  bytes_more : length (texts (flat (ds ++ (d ∷ [])))) ≡ length (texts (flat ds)) + length (texts d)
  bytes_more = ap (λ (x : List Row). length (texts x)) flat_more ∙ ap length (texts_append (flat ds) d) ∙ length-append (texts (flat ds)) (texts d)

  pub push_encode : pushed_more (encode ds) (set_counts ds) d ≡ encode (ds ++ (d ∷ []))
  unfolding pushed_more set_counts
  push_encode = append_encode ds d w

  pub counted_encode : counted_more (set_counts ds) d ≡ set_counts (ds ++ (d ∷ []))
  unfolding counted_more set_counts
  counted_encode =
      let c : counted_all (counts_of (length ds) (length (flat ds)) (length (texts (flat ds)))) d ≡ counts_of (length ds) (length (flat ds) + length d) (length (texts (flat ds)) + length (texts d))
      = counted_small d (length ds) (length (flat ds)) (length (texts (flat ds))) (omega (arith, rows_more, w.rows)) (omega (arith, bytes_more, w.strings)) in
      rw (c, rows_more, bytes_more, length-append ds (d ∷ []))

-- ---- the tests of join, in order: m is the set, c its counts, and n and bytes stand for rows in `from`

module _ (m : List ℕ) (w : well_formed m ≡ true) (c : Counts) (e : c ≡ counts_in m) where
  counts_is : c ≡ set_counts (decode m)
  counts_is = e ∙ is_counts m w

  pub places_are : c.declarations ≡ length (decode m)
  unfolding set_counts
  places_are = ap (λ (x : Counts). x.declarations) counts_is

  pub rows_are : c.rows ≡ length (flat (decode m))
  unfolding set_counts
  rows_are = ap (λ (x : Counts). x.rows) counts_is

  bytes_are : c.string_bytes ≡ length (texts (flat (decode m)))
  unfolding set_counts
  bytes_are = ap (λ (x : Counts). x.string_bytes) counts_is

  pub rows_most : c.rows ≤ row_limit
  rows_most = omega (arith, rows_are, (is_good m w).rows)

  pub bytes_most : c.string_bytes ≤ string_limit
  bytes_most = omega (arith, bytes_are, (is_good m w).strings)

  module _ («from» : List ℕ) (start n bytes : ℕ) where
    pub join_rows : row_limit - c.rows < n → (rows : List Row) → Drafted «from» start n bytes rows → {r : Answer Counts}
        → r ≡ Err (record { why = TooManyRows; place = c.declarations; at = 0 }) → Ended m m r (joined (decode m) rows)
    unfolding joined
    join_rows h rows d g =
        let k : row_limit < length (flat (decode m)) + length rows = omega (arith, rows_are, d.counted, rows_most) in
        rw g (ended_no m _ (rw (lt-ltb row_limit (length (flat (decode m)) + length rows) k, places_are)))

    module _ (few : n ≤ row_limit - c.rows) where
      rows_pass : (rows : List Row) → Drafted «from» start n bytes rows → ltb row_limit (length (flat (decode m)) + length rows) ≡ false
      rows_pass rows d = le-ltb row_limit (length (flat (decode m)) + length rows) (omega (arith, rows_are, rows_most, d.counted))

      pub join_strings : string_limit - c.string_bytes < bytes → (rows : List Row) → Drafted «from» start n bytes rows → {r : Answer Counts}
          → r ≡ Err (record { why = TooManyStringBytes; place = c.declarations; at = 0 }) → Ended m m r (joined (decode m) rows)
      unfolding joined
      join_strings h rows d g =
          let k : string_limit < length (texts (flat (decode m))) + length (texts rows) = omega (arith, bytes_are, d.strings, bytes_most) in
          rw g (ended_no m _ (rw (rows_pass rows d, lt-ltb string_limit (length (texts (flat (decode m))) + length (texts rows)) k, places_are)))

      module _ (short : bytes ≤ string_limit - c.string_bytes) where
        strings_pass : (rows : List Row) → Drafted «from» start n bytes rows → ltb string_limit (length (texts (flat (decode m))) + length (texts rows)) ≡ false
        strings_pass rows d = le-ltb string_limit (length (texts (flat (decode m))) + length (texts rows)) (omega (arith, bytes_are, bytes_most, d.strings))

        lies : (rows : List Row) → Drafted «from» start n bytes rows → (start + n ≤ row_limit) × (rows_from «from» n start ≡ rows)
        lies rows d = d.fits (omega (arith, rows_most)) (omega (arith, bytes_most))

        -- what first_fault and push ask
        pub join_asks : IsDraft «from» start n bytes → (length m ≡ layout_length) × (c.rows ≤ row_limit) × (length «from» ≡ layout_length) × (start + n ≤ row_limit)
        join_asks d = (is_long m w, rows_most, d.drafted.long, (lies d.rows d.drafted).0)

        pub push_asks : IsDraft «from» start n bytes → count_in m < declaration_limit → (c.declarations < declaration_limit) × (length «from» ≡ layout_length) × (start + n ≤ row_limit)
        push_asks d room = (omega (arith, places_are, is_count m w), d.drafted.long, (lies d.rows d.drafted).0)

        module _ (f : Resolution) (found : f ≡ fault_in (rows_from m c.rows 0) (rows_from «from» n start)) where
          faults : (rows : List Row) → Drafted «from» start n bytes rows → f ≡ fault_in (flat (decode m)) rows
          faults rows d = found ∙ ap₂ fault_in (ap (λ (x : ℕ). rows_from m x 0) rows_are ∙ is_rows m w) (lies rows d).1

          tested : (rows : List Row) → Drafted «from» start n bytes rows → joined (decode m) rows ≡ on_resolved f (length (decode m)) (becomes (decode m ++ (rows ∷ [])))
          unfolding joined
          tested rows d = rw (rows_pass rows d, strings_pass rows d, ← faults rows d)

          pub join_fault : {x : Fault} → f ≡ Err x → (rows : List Row) → Drafted «from» start n bytes rows → {r : Refusal} → r ≡ placed x c.declarations
              → Ended m m (Err r) (joined (decode m) rows)
          join_fault b rows d g = rw g (ended_no m _ (tested rows d ∙ rw (b, places_are)))

          module _ (room : count_in m < declaration_limit) (b : f ≡ Ok tt) where
            more_is : (rows : List Row) → Drafted «from» start n bytes rows → Within (decode m ++ (rows ∷ []))
            more_is rows d =
                more_within (decode m) rows (is_good m w) (omega (arith, is_count m w)) (omega (arith, rows_are, rows_most, d.counted)) (omega (arith, bytes_are, bytes_most, d.strings)) d.kept

            pub join_done : {s : Counts} {m' : List ℕ} → s ≡ counted_more c (rows_from «from» n start) → m' ≡ pushed_more m c (rows_from «from» n start)
                → (rows : List Row) → Drafted «from» start n bytes rows → Ended m m' (Ok s) (joined (decode m) rows)
            join_done p q rows d =
                let g : Within (decode m ++ (rows ∷ [])) = more_is rows d in
                let l : rows_from «from» n start ≡ rows = (lies rows d).1 in
                ended_done m (decode m ++ (rows ∷ [])) (tested rows d ∙ rw b)
                (p ∙ ap₂ counted_more counts_is l ∙ counted_encode (decode m) rows g)
                (q ∙ ap (λ (x : List ℕ). pushed_more x c (rows_from «from» n start)) (is_encoded m w) ∙ ap₂ (pushed_more (encode (decode m))) counts_is l ∙ push_encode (decode m) rows g)
