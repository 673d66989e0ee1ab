-- `view::strings::utf8` meets its contract.
-- Assumes nothing.
use Rattle.view.specs.Strings.{utf8_of}
use borrow.Author.Tests.{lt-ltb, le-ltb}
use native.Mathlib.Omega.{arith}
use mathlib.Core.Path.{refl}
use Rattle.view.proofs.strings.utf8.Goals as goal

pub returns-then-code-lt128 : goal.returns-then-code-lt128
unfolding utf8_of
returns-then-code-lt128 c = record { is = simp (lt-ltb _ _ c.if-code-lt128.true); some = omega arith; few = omega arith; four = refl }

pub returns-then-code-lt2048 : goal.returns-then-code-lt2048
unfolding utf8_of
returns-then-code-lt2048 c = record { is = simp (le-ltb _ _ c.if-code-lt128.false, lt-ltb _ _ c.if-code-lt2048.true); some = omega arith; few = omega arith; four = refl }

pub returns-then-code-lt65536 : goal.returns-then-code-lt65536
unfolding utf8_of
returns-then-code-lt65536 c = record { is = simp (le-ltb _ _ c.if-code-lt128.false, le-ltb _ _ c.if-code-lt2048.false, lt-ltb _ _ c.if-code-lt65536.true); some = omega arith; few = omega arith; four = refl }

pub returns : goal.returns
unfolding utf8_of
returns c = record { is = simp (le-ltb _ _ c.if-code-lt128.false, le-ltb _ _ c.if-code-lt2048.false, le-ltb _ _ c.if-code-lt65536.false); some = omega arith; few = omega arith; four = refl }
