-- Where a value ends. On text that was not scanned, and where no value stands, this is some place at or behind the one asked for.
-- Assumes nothing.
use Rattle.std.specs.Prelude.{ℕ, suc, ◌+◌, ◌-◌, Bool, cond, ◌&&◌, ◌||◌, not, List, [], ◌∷◌, eqb, drop}
use Rattle.json_scan.specs.Json.{is_space}
use Rattle.ground.specs.Bytes.{byte_at}
use Rattle.view.specs.Values.{count}

-- what may stand behind a number or a word: a comma, a closing bracket, white space
unfoldable pub is_delimiter : ℕ → Bool
is_delimiter b = eqb b 44 || eqb b 93 || eqb b 125 || is_space b

abbrev pub is_token : ℕ → Bool
is_token b = not (is_delimiter b)

-- a number or a word ends before the first delimiter, or with the text
unfoldable pub literal_end : List ℕ → ℕ → ℕ
literal_end t p = p + count is_token (drop p t)

-- 0: outside of strings; 1: in a string; 2: in a string, after a backslash
unfoldable pub mode_after : ℕ → ℕ → ℕ
mode_after m b =
    cond (eqb m 0) (cond (eqb b 34) 1 0)
    (cond (eqb m 1) (cond (eqb b 34) 0 (cond (eqb b 92) 2 1)) 1)

-- how many brackets are open
unfoldable pub depth_after : ℕ → ℕ → ℕ → ℕ
depth_after m b d =
    cond (eqb m 0)
    (cond (eqb b 91) (d + 1) (cond (eqb b 123) (d + 1) (cond (eqb b 93) (d - 1) (cond (eqb b 125) (d - 1) d))))
    d

-- no string and no bracket is open
unfoldable pub at_rest : ℕ → ℕ → Bool
at_rest m d = eqb m 0 && eqb d 0

-- how many bytes until no string and no bracket is open any more
unfoldable pub to_rest : ℕ → ℕ → List ℕ → ℕ
to_rest m d [] = 0
to_rest m d (b ∷ bs) =
    let more = suc (to_rest (mode_after m b) (depth_after m b d) bs) in
    cond (at_rest (mode_after m b) (depth_after m b d)) 1 more

-- past the quote or the bracket that closes what is open
unfoldable pub closing_of : List ℕ → ℕ → ℕ → ℕ → ℕ
closing_of t m d p = p + to_rest m d (drop p t)

-- the first byte of a string, an array, an object
unfoldable pub is_block : ℕ → Bool
is_block b = eqb b 34 || eqb b 91 || eqb b 123

-- where the value that starts at p ends
unfoldable pub end_of : List ℕ → ℕ → ℕ
end_of t p = cond (is_block (byte_at t p)) (closing_of t 0 0 p) (literal_end t p)
