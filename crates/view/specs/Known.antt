-- A table of ends: for each place of a text nothing, or where the value that starts there ends.
-- Assumes nothing.
use Rattle.std.specs.Prelude.{ℕ, ◌+◌, ◌-◌, ◌≤◌, ◌<◌, ◌≡◌, List, length, get_or}
use Rattle.ground.specs.Bytes.{byte_at, part}
use Rattle.json_scan.specs.Json.{deepest}
use Rattle.view.specs.Ends.{closing_of, end_of}
use Rattle.view.specs.Strings.{string_at}

-- what the table holds for p; 0: nothing is known
abbrev pub end_in : List ℕ → ℕ → ℕ
end_in ends p = get_or ends p 0

-- the string at p ends before e, and its bytes stand for themselves
pub record Literal (t : List ℕ) (p e : ℕ) : Type 0 where
  pub opens : p + 2 ≤ e
  pub closes : e ≤ length t
  pub bytes : string_at t p ≡ part t (p + 1) (e - 1 - (p + 1))

-- all that the table holds is true; only strings without escapes are in it
pub record Known (t ends : List ℕ) : Type 0 where
  pub ended : (p : ℕ) → 0 < end_in ends p → end_in ends p ≡ end_of t p
  pub literal : (p : ℕ) → 0 < end_in ends p → byte_at t p ≡ 34 → Literal t p (end_in ends p)

-- ---- what the code holds on the way

-- the bracket at a is open before p, with d brackets open from it on
pub record Open (t : List ℕ) (a d p : ℕ) : Type 0 where
  pub within : a < length t
  pub no_string : byte_at t a ≡ 34 → ⊥
  pub closes : closing_of t 0 d p ≡ end_of t a

-- before p, outside of strings: d brackets are open, and the first 64 of them are kept
pub record Stack (t kept : List ℕ) (d p : ℕ) : Type 0 where
  pub room : length kept ≡ deepest
  pub few : d ≤ p
  pub all_open : (i : ℕ) → i < d → i < deepest → Open t (get_or kept i 0) (d - i) p
