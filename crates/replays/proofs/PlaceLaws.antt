-- The place of a declaration in well-formed memory.
-- Assumes nothing.
use mathlib.Core.Path.{◌≡◌, ap, ◌∙◌}
use mathlib.Core.Bool.{true}
use mathlib.Core.List.{List}
use Prim.Native.Nat.{ℕ, ◌<◌, ◌≤◌}
use native.Mathlib.Omega.{arith}
use lib.ListN.{length}
use Rattle.row.specs.Layout.{declaration_limit, layout_length}
use Rattle.row.specs.Sets.{count_in, decode, encode, Within}
use Rattle.row.proofs.Laws.{length_encode, count_encode}
use Rattle.formed.specs.WellFormed.{well_formed}
use Rattle.formed.proofs.Laws.{exact, good_within}

module _ (m : List ℕ) (w : well_formed m ≡ true) where
  is : m ≡ encode (decode m)
  is = (exact m w).0

  within : Within (decode m)
  within = good_within (decode m) (exact m w).1

  pub formed_long : length m ≡ layout_length
  formed_long = ap length is ∙ length_encode (decode m) within

  module _ (place n : ℕ) (e : n ≡ count_in m) (l : place < n) where
    few : place < declaration_limit
    few = omega (arith, e, ap count_in is, count_encode (decode m) within, within.declarations)

    pub place_asks : (length m ≡ layout_length) × (place < declaration_limit)
    place_asks = (formed_long, few)

    pub before_asks : (length m ≡ layout_length) × (place ≤ declaration_limit)
    before_asks = (formed_long, omega (arith, few))
