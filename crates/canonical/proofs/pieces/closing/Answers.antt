-- `canonical::pieces::closing` meets its contract: each arm writes its kinds' text.
-- Assumes nothing.
use mathlib.Core.Path.{sym, ap}
use borrow.Author.Rules.{rules}
use borrow.Enum.Refused.{opened}
use denote.Enum.Declared.{tag_of}
use Rattle.row.specs.contracts.kind.Kind.{the_type}
use Rattle.canonical.specs.Pieces.{closing}
use Rattle.canonical.proofs.PieceLaws.{closing_brace, closing_both, closing_none, open_ended}
use Rattle.canonical.proofs.WriteLaws.{wrote_none, wrote_eq}
use Rattle.canonical.proofs.pieces.closing.Goals as goal

pub returns-in-Array : goal.returns-in-Array
returns-in-Array c = wrote_eq (closing_brace _ c.in-Array.in-Array-own.keys1) c.put.ensures

pub returns-in-Union : goal.returns-in-Union
unfolding closing
returns-in-Union c = wrote_eq (sym (ap closing c.in-Union.is)) c.put-in-Union.ensures

pub returns-in-Record : goal.returns-in-Record
returns-in-Record c = wrote_eq (closing_both _ c.in-Record.in-Record-own.keys3) c.put-in-Record.ensures

pub returns-in_default : goal.returns-in_default
returns-in_default c = wrote_eq (closing_none _ (opened {ks = open_ended} {x = tag_of the_type c.args.kind} (search rules))) (wrote_none _ _)
