-- The numbers of an answer tell it.
-- Assumes nothing.
use mathlib.Core.Path.{◌≡◌, sym, ap}
use Rattle.std.specs.Prelude.{Ok, Err}
use Rattle.answer.proofs.Laws.{first, second, refusal_one, never_both}
use Rattle.summary.specs.Calls.{Offsets, Place, numbers_of_offsets, numbers_of_place}

pub offsets_one : (a b : Offsets) → numbers_of_offsets a ≡ numbers_of_offsets b → a ≡ b
offsets_one (Ok (p, n)) (Ok (q, k)) e = λ i. Ok (first e i, second e i)
offsets_one (Ok (p, n)) (Err s) e = absurd (never_both s _ _ _ (sym e))
offsets_one (Err r) (Ok (q, k)) e = absurd (never_both r _ _ _ e)
offsets_one (Err r) (Err s) e = ap Err (refusal_one r s e)

pub place_one : (a b : Place) → numbers_of_place a ≡ numbers_of_place b → a ≡ b
place_one (Ok p) (Ok q) e = ap Ok (first e)
place_one (Ok p) (Err s) e = absurd (never_both s _ _ _ (sym e))
place_one (Err r) (Ok q) e = absurd (never_both r _ _ _ e)
place_one (Err r) (Err s) e = ap Err (refusal_one r s e)
