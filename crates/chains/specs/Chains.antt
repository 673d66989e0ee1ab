-- Numbers in chains, by slots. A slot has the number that was entered last, plus 1; each number has the one that its slot had before. 0 is none.
-- Assumes nothing.
use Rattle.std.specs.Prelude.{ℕ, zero, suc, ◌+◌, ◌*◌, ◌%◌, ◌<◌, ◌≡◌, Bool, true, false, cond, ◌||◌, List, eqb, get_or}

abbrev pub slots : ℕ
slots = 2048

-- the slot of a mark, for one of many owners
unfoldable pub slot_of : ℕ → ℕ → ℕ
slot_of mark owner = (mark % slots + owner % slots * 37) % slots

-- does a number below n keep the test, of those on the chain that begins with h? It goes on with smaller numbers alone.
unfoldable pub on_chain : (ℕ → Bool) → List ℕ → ℕ → ℕ → Bool
on_chain test next zero h = false
on_chain test next (suc n) h =
    let on = on_chain test next n (get_or next n 0) in
    let past = on_chain test next n h in
    cond (eqb h (suc n)) (test n || on) past

-- does a number below n keep the test?
unfoldable pub any_below : (ℕ → Bool) → ℕ → Bool
any_below test zero = false
any_below test (suc n) = any_below test n || test n

-- of the numbers below n, each that is one of them is on the chain of its slot
pub record Keeps (is_in : ℕ → Bool) (slot : ℕ → ℕ) (first next : List ℕ) (n : ℕ) : Type 0 where
  pub keeps : (a : ℕ) → a < n → is_in a ≡ true → (test : ℕ → Bool) → test a ≡ true → on_chain test next n (get_or first (slot a) 0) ≡ true
