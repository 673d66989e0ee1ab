-- A size literal: digits only, at most 2^64 - 1.
-- Assumes nothing.
use Rattle.std.specs.Prelude.{ℕ, ◌+◌, ◌-◌, ◌*◌, cond, List, [], ◌∷◌, ltb, drop, Option, Some, None}
use Rattle.json_scan.specs.Json.{is_digit}
use Rattle.ground.specs.Bytes.{byte_at}
use Rattle.view.specs.Ends.{is_delimiter}

-- the number, where it fits 64 bits
unfoldable pub fitting : ℕ → Option ℕ
fitting v = cond (ltb v 18446744073709551616) (Some v) None

-- v so far; digits, and then a delimiter or the text's end
unfoldable pub size_from : ℕ → List ℕ → Option ℕ
size_from v [] = fitting v
size_from v (b ∷ bs) =
    let more = size_from (v * 10 + (b - 48)) bs in
    let stop = cond (is_delimiter b) (fitting v) None in
    cond (is_digit b) more stop

-- the size at p, at least one digit
unfoldable pub size_of : List ℕ → ℕ → Option ℕ
size_of t p = let s = size_from 0 (drop p t) in cond (is_digit (byte_at t p)) s None
