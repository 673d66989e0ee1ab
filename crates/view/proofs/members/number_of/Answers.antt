-- `view::members::number_of` meets its contract: by the first byte.
-- Assumes nothing.
use mathlib.Core.Path.{sym, ◌∙◌}
use native.Mathlib.Omega.{arith}
use Rattle.view.proofs.KeyNumber.{starts_t, starts_n, starts_s, starts_a, starts_f, starts_d, starts_i, starts_v, starts_l, starts_p, starts_none}
use Rattle.view.proofs.members.number_of.Goals as goal

pub returns-in-116 : goal.returns-in-116
returns-in-116 c = c.number_if.ensures ∙ starts_t _ (sym c.byte_at.ensures ∙ c.in-116.is)

pub returns-in-110 : goal.returns-in-110
returns-in-110 c = c.number_n.ensures ∙ starts_n _ (sym c.byte_at.ensures ∙ c.in-110.is)

pub returns-in-115 : goal.returns-in-115
returns-in-115 c = c.number_s.ensures ∙ starts_s _ (sym c.byte_at.ensures ∙ c.in-115.is)

pub returns-in-97 : goal.returns-in-97
returns-in-97 c = c.number_if-in-97.ensures ∙ starts_a _ (sym c.byte_at.ensures ∙ c.in-97.is)

pub returns-in-102 : goal.returns-in-102
returns-in-102 c = c.number_if-in-102.ensures ∙ starts_f _ (sym c.byte_at.ensures ∙ c.in-102.is)

pub returns-in-100 : goal.returns-in-100
returns-in-100 c = c.number_if-in-100.ensures ∙ starts_d _ (sym c.byte_at.ensures ∙ c.in-100.is)

pub returns-in-105 : goal.returns-in-105
returns-in-105 c = c.number_if-in-105.ensures ∙ starts_i _ (sym c.byte_at.ensures ∙ c.in-105.is)

pub returns-in-118 : goal.returns-in-118
returns-in-118 c = c.number_if-in-118.ensures ∙ starts_v _ (sym c.byte_at.ensures ∙ c.in-118.is)

pub returns-in-108 : goal.returns-in-108
returns-in-108 c = c.number_if-in-108.ensures ∙ starts_l _ (sym c.byte_at.ensures ∙ c.in-108.is)

pub returns-in-112 : goal.returns-in-112
returns-in-112 c = c.number_if-in-112.ensures ∙ starts_p _ (sym c.byte_at.ensures ∙ c.in-112.is)

pub returns-in_default : goal.returns-in_default
returns-in_default c = starts_none c.args.key.now (λ e. omega arith) (λ e. omega arith) (λ e. omega arith) (λ e. omega arith) (λ e. omega arith) (λ e. omega arith) (λ e. omega arith) (λ e. omega arith) (λ e. omega arith) (λ e. omega arith)
