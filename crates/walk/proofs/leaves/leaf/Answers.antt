-- `walk::leaves::leaf` meets its contract: each arm reads as its kind does.
-- Assumes nothing.
use Rattle.std.proofs.Common.{rules}
use mathlib.Core.Logic.{⊎_elim}
use Rattle.walk.proofs.Laws.{exit}
use Rattle.walk.proofs.LeafLaws.{int_ok, int_err, long_ok, long_err, leaf_boolean, leaf_int, leaf_long, leaf_float, leaf_double, leaf_bytes, leaf_string, leaf_fixed, leaf_none, others}
use borrow.Enum.Refused.{opened}
use denote.Enum.Declared.{tag_of}
use Rattle.row.specs.contracts.kind.Kind.{the_type}
use Rattle.walk.proofs.leaves.leaf.Goals as goal

pub returns-in-Boolean : goal.returns-in-Boolean
returns-in-Boolean c = leaf_boolean _ _ _ c.in-Boolean.is c.flag.ensures

pub returns-in_err-number-in-Int : goal.returns-in_err-number-in-Int
returns-in_err-number-in-Int c = leaf_int _ _ _ c.in-Int.is (int_err _ _ c.number.ensures c.int_at.ensures c.in_err-number-in-Int.was (exit c.from_residual.ensures.1))

pub returns-in_ok-number-in-Int : goal.returns-in_ok-number-in-Int
returns-in_ok-number-in-Int c = leaf_int _ _ _ c.in-Int.is (int_ok _ _ c.number.ensures c.int_at.ensures c.in_ok-number-in-Int.was)

pub returns-in_err-number-in-Long : goal.returns-in_err-number-in-Long
returns-in_err-number-in-Long c = leaf_long _ _ _ c.in-Long.is (long_err _ _ c.number-in-Long.ensures c.long_at.ensures c.in_err-number-in-Long.was (exit c.from_residual-in_err-number-in-Long.ensures.1))

pub returns-in_ok-number-in-Long : goal.returns-in_ok-number-in-Long
returns-in_ok-number-in-Long c = leaf_long _ _ _ c.in-Long.is (long_ok _ _ c.number-in-Long.ensures c.long_at.ensures c.in_ok-number-in-Long.was)

pub returns-in-Float : goal.returns-in-Float
returns-in-Float c = leaf_float _ _ _ c.in-Float.is c.pass.ensures

pub returns-in-Double : goal.returns-in-Double
returns-in-Double c = leaf_double _ _ _ c.in-Double.is c.pass-in-Double.ensures

pub returns-in-Bytes : goal.returns-in-Bytes
returns-in-Bytes c = ⊎_elim (λ e. leaf_bytes _ _ _ e c.counted.ensures) (λ e. leaf_string _ _ _ e c.counted.ensures) c.in-Bytes.is

pub returns-in-Fixed : goal.returns-in-Fixed
returns-in-Fixed c = leaf_fixed _ _ _ c.in-Fixed.is c.pass-in-Fixed.ensures

pub returns-in_default : goal.returns-in_default
returns-in_default c = leaf_none _ _ c.requires _ _ (opened {ks = others} {x = tag_of the_type c.args.kind} (search rules))
