-- `name::qualify::keep_within` meets its contract. Assumes nothing.
use Prim.Native.Nat.{◌+◌, ◌<◌, ◌≤◌}
use native.Mathlib.Omega.{arith}
use lib.ListN.{length}
use Rattle.name.proofs.qualify.Kept.{within_long, within_short}
use Rattle.name.specs.Full.{kept_limit}
use Rattle.name.proofs.qualify.keep_within.Goals as goal

pub returns-then-n-gt-LONGEST : goal.returns-then-n-gt-LONGEST
returns-then-n-gt-LONGEST c =
    let h : kept_limit < length c.args.namespace.now + 1 + length c.args.s.now = omega arith in
    within_long c.args.namespace.now c.args.s.now _ h

pub returns : goal.returns
returns c =
    let h : length c.args.namespace.now + 1 + length c.args.s.now ≤ kept_limit = omega arith in
    within_short c.args.namespace.now c.args.s.now _ _ _ h c.copy.ensures c.copy-2.ensures
