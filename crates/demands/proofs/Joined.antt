-- Put at the count of well-formed memory, against what may join the set that it holds.
-- Assumes nothing.
use mathlib.Core.Path.{◌≡◌, sym, ap, ◌∙◌}
use mathlib.Core.Bool.{true}
use mathlib.Core.List.{List, [], ◌∷◌, ◌++◌}
use Prim.Native.Nat.{ℕ}
use lib.ListN.{length}
use Rattle.answer.specs.Answers.{of_counts}
use Rattle.row.specs.Rows.{Row}
use Rattle.row.specs.Sets.{decode}
use Rattle.row.specs.Memory.{set_counts}
use Rattle.row.proofs.Laws.{decode_encode}
use Rattle.formed.specs.WellFormed.{well_formed}
use Rattle.formed.proofs.Laws.{exact, good_within}
use Rattle.set.specs.Lists.{becomes, put_in}
use Rattle.set.specs.Calls.{answer_of, memory_of, put}
use Rattle.set.proofs.Laws.{put_formed}
use Rattle.demands.specs.Building.{Joins}
use Rattle.demands.proofs.Steps.{put_good}
use Rattle.demands.proofs.Holding.{done_becomes}
use Rattle.demands.proofs.Joining.{join_only, join_if}

module _ (m : List ℕ) (wf : well_formed m ≡ true) (text : List ℕ) where
  -- what an accepted text leaves in memory
  becomes_holds : (d : List (List Row)) → put_in (decode m) (length (decode m)) text ≡ becomes d → decode (memory_of m (put m (length (decode m)) text)) ≡ d
  unfolding memory_of
  becomes_holds d e =
      ap (λ (x : List ℕ). decode x) (ap (memory_of m) (put_formed m wf (length (decode m)) text ∙ e))
      ∙ decode_encode d (good_within d (put_good (decode m) (length (decode m)) text d (exact m wf).1 e))

  pub accepts_only : (answer_of (put m (length (decode m)) text)).number ≡ 0
      → (rows : List Row) × Joins (decode m) text rows × (decode (memory_of m (put m (length (decode m)) text)) ≡ decode m ++ (rows ∷ [])) × (answer_of (put m (length (decode m)) text) ≡ of_counts (set_counts (decode m ++ (rows ∷ []))))
  unfolding answer_of
  accepts_only e =
      let d = done_becomes (put m (length (decode m)) text) e in
      let f : put_in (decode m) (length (decode m)) text ≡ becomes d.0 = sym (put_formed m wf (length (decode m)) text) ∙ d.1 in
      let j = join_only (decode m) text d.0 f in
      (j.0, j.1, becomes_holds d.0 f ∙ j.2, ap answer_of d.1 ∙ ap (λ (x : List (List Row)). of_counts (set_counts x)) j.2)

  pub accepts_if : (rows : List Row) → Joins (decode m) text rows
      → (answer_of (put m (length (decode m)) text) ≡ of_counts (set_counts (decode m ++ (rows ∷ [])))) × (decode (memory_of m (put m (length (decode m)) text)) ≡ decode m ++ (rows ∷ []))
  unfolding answer_of
  accepts_if rows j =
      let e : put_in (decode m) (length (decode m)) text ≡ becomes (decode m ++ (rows ∷ [])) = join_if (decode m) text rows j in
      (ap answer_of (put_formed m wf (length (decode m)) text ∙ e), becomes_holds (decode m ++ (rows ∷ [])) e)
