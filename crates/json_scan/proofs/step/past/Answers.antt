-- `json_scan::past` meets its contract: each byte that was passed is of the class, and leaves a mode as it was that the class leaves so.
-- Assumes nothing.
use mathlib.Core.Path.{◌≡◌, sym, ap, ◌∙◌}
use native.Mathlib.Omega.{arith}
use lib.ListN.{get_or-eq_default}
use Rattle.json_scan.specs.Meets.{run_at}
use Rattle.json_scan.proofs.Laws.{hop}
use Rattle.json_scan.proofs.step.past.Goals as goal

pub returns-then-not-is : goal.returns-then-not-is
returns-then-not-is g c = λ is post z. record { low = c.loop-at.auto.at; high = omega arith; same = c.loop-at.invariant.1 is post; past = sym (post _ _ c.is.ensures) ∙ c.if-not-is.true }

pub loop-at-preserved : goal.loop-at-preserved
loop-at-preserved g c = (omega arith, λ is post m s k. c.loop-at.invariant.1 is post m s k ∙ hop _ m k c.loop-at.at m k c.loop-at-test.true (s _ k (sym (post _ _ c.is.ensures) ∙ c.if-not-is.false)))

pub returns : goal.returns
returns g c =
    let e : c.max.result ≡ c.loop-at.at = omega arith in
    λ is post z. record {
      low = omega arith;
      high = omega arith;
      same = λ m s k. c.loop-at.invariant.1 is post m s k ∙ ap (run_at c.args.text.now m k) (sym e);
      past = ap is (get_or-eq_default c.args.text.now 0 (omega arith)) ∙ z;
    }
