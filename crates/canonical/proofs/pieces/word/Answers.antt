-- `canonical::pieces::word` meets its contract: each arm writes its kind's word.
-- Assumes nothing.
use mathlib.Core.Path.{sym, ap}
use borrow.Author.Rules.{rules}
use borrow.Enum.Refused.{opened}
use denote.Enum.Declared.{tag_of}
use Rattle.row.specs.contracts.kind.Kind.{the_type}
use Rattle.resolve.specs.Kinds.{is_kind, is_primitive}
use Rattle.canonical.specs.Walk.{word_of}
use Rattle.canonical.specs.Pieces.{opening}
use Rattle.canonical.proofs.PieceLaws.{word_none, wordless}
use Rattle.canonical.proofs.WriteLaws.{wrote_none, wrote_eq}
use Rattle.canonical.proofs.pieces.word.Goals as goal

pub returns-in-Null : goal.returns-in-Null
unfolding word_of is_primitive is_kind opening
returns-in-Null c = wrote_eq (sym (ap word_of c.in-Null.is)) c.put.ensures

pub returns-in-Boolean : goal.returns-in-Boolean
unfolding word_of is_primitive is_kind opening
returns-in-Boolean c = wrote_eq (sym (ap word_of c.in-Boolean.is)) c.put-in-Boolean.ensures

pub returns-in-Int : goal.returns-in-Int
unfolding word_of is_primitive is_kind opening
returns-in-Int c = wrote_eq (sym (ap word_of c.in-Int.is)) c.put-in-Int.ensures

pub returns-in-Long : goal.returns-in-Long
unfolding word_of is_primitive is_kind opening
returns-in-Long c = wrote_eq (sym (ap word_of c.in-Long.is)) c.put-in-Long.ensures

pub returns-in-Float : goal.returns-in-Float
unfolding word_of is_primitive is_kind opening
returns-in-Float c = wrote_eq (sym (ap word_of c.in-Float.is)) c.put-in-Float.ensures

pub returns-in-Double : goal.returns-in-Double
unfolding word_of is_primitive is_kind opening
returns-in-Double c = wrote_eq (sym (ap word_of c.in-Double.is)) c.put-in-Double.ensures

pub returns-in-Bytes : goal.returns-in-Bytes
unfolding word_of is_primitive is_kind opening
returns-in-Bytes c = wrote_eq (sym (ap word_of c.in-Bytes.is)) c.put-in-Bytes.ensures

pub returns-in-String : goal.returns-in-String
unfolding word_of is_primitive is_kind opening
returns-in-String c = wrote_eq (sym (ap word_of c.in-String.is)) c.put-in-String.ensures

pub returns-in_default : goal.returns-in_default
returns-in_default c = wrote_eq (word_none _ (opened {ks = wordless} {x = tag_of the_type c.args.kind} (search rules))) (wrote_none _ _)
