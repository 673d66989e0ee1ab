-- The canonical text of a declaration held against RFC 8259. Assumes nothing.
use mathlib.Core.Path.{◌≡◌, subst}
use mathlib.Core.Bool.{true}
use mathlib.Core.Logic.{◌⊎◌}
use mathlib.Core.List.{List, append-nil}
use Prim.Native.Nat.{ℕ, ◌+◌, ◌*◌, ◌^◌, ◌≤◌, ◌<◌}
use native.Mathlib.Omega.{arith}
use native.Mathlib.Decide.{dec_lt}
use lib.ListN.{length}
use Rattle.std.specs.Prelude.{Ok}
use Rattle.answer.specs.declared.refusal.Why.TheVariants.{NotJson, NestedTooDeep}
use Rattle.ground.specs.Bytes.{byte_at}
use Rattle.json_scan.specs.Json.{longest, deepest, fault, verdict, scanned}
use Rattle.name.specs.Name.{every}
use Rattle.row.specs.Rows.{Row}
use Rattle.resolve.specs.Rules.{is_declaration}
use Rattle.canonical.specs.Decimal.{decimal}
use Rattle.canonical.specs.Canonical.{canonical_of}
use Rattle.grammar.specs.Grammar.{join, none, int, JSON_text}
use Rattle.grammar.proofs.Theorems.{grammar_is_scanned, json_or_deep, not_json}
use Rattle.legible.specs.Digits.{number_of}
use Rattle.legible.specs.Plain.{is_plain}
use Rattle.legible.specs.Nesting.{nesting, deepest_row}
use Rattle.legible.proofs.Digits.{decimal_number, decimal_int, decimal_first}
use Rattle.legible.proofs.Texts.{canonical_value}
use Rattle.legible.proofs.Depths.{nesting_depth}
use Rattle.legible.proofs.Plain.{canonical_bytes}

-- the canonical text nests at most twice as deep as the rows do
pub nesting_by_depth : (rows : List Row) → nesting rows ≤ 2 * (deepest_row rows + 1)
nesting_by_depth rows = nesting_depth rows

module _ (rows : List Row) (e : is_declaration rows ≡ true) where
  -- the canonical text of a declaration is a JSON text, and nests as its rows say
  pub canonical_is_json : (n : ℕ) → nesting rows ≤ n → JSON_text n (canonical_of rows)
  canonical_is_json n h = subst (λ (s : List ℕ). JSON_text n s) (append-nil (canonical_of rows)) (join none (join (canonical_value rows e n h) none))

  -- the same by the depth of the deepest row
  pub canonical_by_depth : JSON_text (2 * (deepest_row rows + 1)) (canonical_of rows)
  canonical_by_depth = canonical_is_json (2 * (deepest_row rows + 1)) (nesting_by_depth rows)

  -- it has no white space, no escape and no byte outside ASCII
  pub canonical_plain : every is_plain (canonical_of rows) ≡ true
  canonical_plain = canonical_bytes rows e

  -- the scan accepts it, or finds it too deep
  pub canonical_scans : (verdict (canonical_of rows) ≡ Ok tt) ⊎ ((p : ℕ) × (verdict (canonical_of rows) ≡ fault NestedTooDeep p))
  canonical_scans = json_or_deep (2 * (deepest_row rows + 1)) (canonical_of rows) canonical_by_depth

  -- refusal 2 is never given for it
  pub canonical_no_fault : (p : ℕ) → verdict (canonical_of rows) ≡ fault NotJson p → ⊥
  canonical_no_fault p h = (not_json (canonical_of rows) p h).none_is (2 * (deepest_row rows + 1)) canonical_by_depth

  -- within the limits of a text the scan finds it whole
  pub canonical_whole : nesting rows ≤ deepest → length (canonical_of rows) ≤ longest → scanned (canonical_of rows) ≡ Ok tt
  canonical_whole h l = grammar_is_scanned (canonical_of rows) l (canonical_is_json deepest h)

-- the digits of a size stand for it; they are an integer of the grammar, and begin with 0 for 0 alone
pub decimal_digits : (n : ℕ) → n < 2 ^ 64 → (number_of (decimal n) ≡ n) × int (decimal n) × (byte_at (decimal n) 0 ≡ 48 → n ≡ 0)
decimal_digits n h = (decimal_number n h, decimal_int n h, λ e. only e (dec_lt 0 n))
  where
    only : byte_at (decimal n) 0 ≡ 48 → Dec (0 < n) → n ≡ 0
    only e (yes l) = absurd (decimal_first n h (λ (z : n ≡ 0). omega arith) e)
    only e (no g) = omega arith
