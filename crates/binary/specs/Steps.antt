-- What the code holds on the way.
-- Assumes nothing.
use Rattle.std.specs.Prelude.{ℕ, ◌+◌, ◌*◌}
use Rattle.binary.specs.Numbers.{Groups, number, cut, too_many}

-- i groups were read, which make `value`; `power` is what the next group counts
unfoldable pub behind : ℕ → ℕ → ℕ → Groups → Groups
behind value power i (number v n) = number (value + power * v) (i + n)
behind value power i cut = cut
behind value power i too_many = too_many
