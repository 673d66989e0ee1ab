-- `chains::short` meets its contract.
-- Assumes nothing.
use mathlib.Core.Path.{◌≡◌, ◌∙◌}
use Prim.Native.Nat.{◌+◌, ◌*◌, ◌%◌}
use borrow.Author.Rules.{rules}
use Rattle.std.specs.List.{fold}
use Rattle.std.proofs.iter.runs.Made.{chains}
use Rattle.chains.proofs.Numbers.{short_fold}
use Rattle.chains.proofs.short.Goals as goal

pub returns : goal.returns
returns c =
    let e : c.fold.result ≡ fold (λ h b. h % 72057594037927936 * 256 + b) 0 c.args.s.now = search (rules, chains) in
    e ∙ short_fold 0 _
