-- JSON text sequences (RFC 7464): which pieces of the input, between the bytes 1E, are texts.
-- Assumes nothing.
use Rattle.std.specs.Prelude.{ℕ, Bool, not, cond, ◌||◌, List, ltb, length}
use Rattle.std.specs.List.{list_all}
use Rattle.json_scan.specs.Json.{is_space}

abbrev pub all_space : List ℕ → Bool
all_space s = list_all (λ b. is_space b) s

-- the first piece stands before any 1E: it is a text where it is the only one, or not white space alone. Of the others the empty ones are none
unfoldable pub is_text : List ℕ → Bool → Bool → Bool
is_text s first last = cond first (last || not (all_space s)) (ltb 0 (length s))
