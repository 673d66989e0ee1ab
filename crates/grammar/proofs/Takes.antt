-- The automaton takes what a rule matches: the operators of ABNF. Assumes nothing.
use mathlib.Core.Path.{◌≡◌, refl, sym, ap, subst, ◌∙◌}
use mathlib.Core.Logic.{◌⊎◌, inl, inr}
use mathlib.Core.List.{List, ◌∷◌, ◌++◌, append_assoc}
use Prim.Native.Nat.{ℕ, ◌≤◌}
use Rattle.answer.specs.declared.refusal.Why.TheVariants.{NestedTooDeep}
use Rattle.json_scan.specs.Json.{Mode, Stack, Move, go, step}
use Rattle.grammar.specs.Grammar.{bytes, Byte, Range, within, ◌·◌, join, ◌or◌, this, that, Optional, absent, present, Many, none, more}
use Rattle.grammar.proofs.Endings.{Ending, refused, ending, going}

module _ (Too : Type 0) where
  -- the same ending; or the brackets nest too deep, where that may be
  abbrev pub Like : Ending → Ending → Type 0
  Like x y = (x ≡ y) ⊎ ((x ≡ refused NestedTooDeep) × Too)

  pub like_then : {x y z : Ending} → Like x y → Like y z → Like x z
  like_then (inl e) (inl f) = inl (e ∙ f)
  like_then (inl e) (inr f) = inr (e ∙ f.0, f.1)
  like_then (inr e) f = inr e

  -- over the bytes of the rule the automaton comes from one state to another
  pub record Takes (P : List ℕ → Type 0) (m : Mode) (k : Stack) (m' : Mode) (k' : Stack) : Type 0 where
    pub took : (s : List ℕ) → P s → (u : List ℕ) → Like (ending m k (s ++ u)) (ending m' k' u)

-- one byte, and what the automaton does at it
pub stepped : (m : Mode) (k : Stack) {m' : Mode} {k' : Stack} (b : ℕ) (u : List ℕ) → step m b k ≡ go m' k' → ending m k (b ∷ u) ≡ ending m' k' u
unfolding ending
stepped m k b u h = ap (λ (v : Move). going v (λ m'' k''. ending m'' k'' u)) h

module _ {Too : Type 0} where
  module _ {m m' : Mode} {k k' : Stack} where
    pub take_byte : (x : ℕ) → step m x k ≡ go m' k' → Takes Too (Byte x) m k m' k'
    take_byte x h = record { took = λ s d u. on d u }
      where
        on : {s : List ℕ} → Byte x s → (u : List ℕ) → Like Too (ending m k (s ++ u)) (ending m' k' u)
        on bytes u = inl (stepped m k x u h)

    pub take_range : (lo hi : ℕ) → ((b : ℕ) → lo ≤ b → b ≤ hi → step m b k ≡ go m' k') → Takes Too (Range lo hi) m k m' k'
    take_range lo hi h = record { took = λ s d u. on d u }
      where
        on : {s : List ℕ} → Range lo hi s → (u : List ℕ) → Like Too (ending m k (s ++ u)) (ending m' k' u)
        on (within {b} l g) u = inl (stepped m k b u (h b l g))

    pub take_alt : {P Q : List ℕ → Type 0} → Takes Too P m k m' k' → Takes Too Q m k m' k' → Takes Too (P or Q) m k m' k'
    take_alt {P} {Q} p q = record { took = λ s d u. on d u }
      where
        on : {s : List ℕ} → (P or Q) s → (u : List ℕ) → Like Too (ending m k (s ++ u)) (ending m' k' u)
        on (this d) u = p.took _ d u
        on (that d) u = q.took _ d u

    pub take_join : {P Q : List ℕ → Type 0} {m'' : Mode} {k'' : Stack} → Takes Too P m k m' k' → Takes Too Q m' k' m'' k'' → Takes Too (P · Q) m k m'' k''
    take_join {P} {Q} {m''} {k''} p q = record { took = λ s d u. on d u }
      where
        on : {s : List ℕ} → (P · Q) s → (u : List ℕ) → Like Too (ending m k (s ++ u)) (ending m'' k'' u)
        on (join {s} {t} c d) u =
            subst (λ (y : List ℕ). Like Too (ending m k y) (ending m'' k'' u)) (sym (append_assoc s t u))
            (like_then Too (p.took s c (t ++ u)) (q.took t d u))

  module _ {m : Mode} {k : Stack} where
    pub take_optional : {P : List ℕ → Type 0} → Takes Too P m k m k → Takes Too (Optional P) m k m k
    take_optional {P} p = record { took = λ s d u. on d u }
      where
        on : {s : List ℕ} → Optional P s → (u : List ℕ) → Like Too (ending m k (s ++ u)) (ending m k u)
        on absent u = inl refl
        on (present d) u = p.took _ d u

    pub take_many : {P : List ℕ → Type 0} → Takes Too P m k m k → Takes Too (Many P) m k m k
    take_many {P} p = record { took = λ s d u. on d u }
      where
        on : {s : List ℕ} → Many P s → (u : List ℕ) → Like Too (ending m k (s ++ u)) (ending m k u)
        on none u = inl refl
        on (more {s} {t} c d) u =
            subst (λ (y : List ℕ). Like Too (ending m k y) (ending m k u)) (sym (append_assoc s t u)) (like_then Too (p.took s c (t ++ u)) (on d u))
