-- What a string that keeps a rule can begin with. Assumes nothing.
use mathlib.Core.Path.{◌≡◌, refl, sym, ◌∙◌}
use mathlib.Core.Bool.{Bool, true, false, cond, and-true, and-false}
use mathlib.Core.List.{List, [], ◌∷◌, ◌++◌}
use Prim.Native.Nat.{ℕ, ◌<◌, ◌≤◌}
use native.Mathlib.Omega.{arith}
use native.Mathlib.Decide.{dec_lt}
use lib.Dec.{eqb, leb}
use lib.ListN.{length, length-append}
use borrow.Author.Tests.{eqb-true, ne_eqb, lt-leb}
use Rattle.ground.specs.Ascii.{ascii}
use Rattle.name.specs.Name.{every, is_empty, is_within, is_letter, is_digit, is_first, is_later, is_simple, dot, is_dotted, starts_with_dot, is_name, is_namespace}
use Rattle.name.specs.Rule.{may_stand}
use Rattle.name.specs.Begin.{Begins, can_begin}
use Rattle.name.proofs.Parts.{never}
use Rattle.name.proofs.Laws.{name_lead, name_else}
use Rattle.name.proofs.Bytewise.{letter_stands, keeps, keeps_simple, keeps_dotted, keeps_on, keeps_front, namespace_some}

-- ---- one byte

an_a : is_letter 97 ≡ true
unfolding is_letter is_within
an_a = refl

within_not : (low high b : ℕ) → high < b → is_within low high b ≡ false
unfolding is_within
within_not low high b h = rw (lt-leb b high h) (and-false (leb low b))

-- what may stand is in ASCII
high_not : (dots first : Bool) (b : ℕ) → 128 ≤ b → may_stand dots first b ≡ false
unfolding may_stand is_first is_later is_letter is_digit
high_not dots first b h =
    rw (ne_eqb b dot (λ (e : b ≡ 46). omega arith), within_not 65 90 b (omega arith), within_not 97 122 b (omega arith), within_not 48 57 b (omega arith), ne_eqb b 95 (λ (e : b ≡ 95). omega arith))
    (both first)
  where
    both : (x : Bool) → cond x false false ≡ false
    both true = refl
    both false = refl

pub stands_low : (dots first : Bool) (b : ℕ) → may_stand dots first b ≡ true → b < 128
stands_low dots first b e = go (dec_lt b 128)
  where
    go : Dec (b < 128) → b < 128
    go (yes l) = l
    go (no n) = never (sym (high_not dots first b (omega arith)) ∙ e)

-- ---- byte by byte: a letter may always follow

keeps_letter : (dots first : Bool) → keeps dots first (ascii "a") ≡ true
unfolding keeps
keeps_letter dots first = rw (letter_stands dots first 97 an_a)

-- one byte
pub keeps_one : (dots first : Bool) (b : ℕ) → keeps dots first (b ∷ ascii "a") ≡ may_stand dots first b
unfolding keeps
keeps_one dots first b = rw (letter_stands dots (eqb b dot) 97 an_a) (and-true (may_stand dots first b))

keeps_follows : (dots first : Bool) (s r : List ℕ) → keeps dots first (s ++ r) ≡ true → keeps dots first (s ++ ascii "a") ≡ true
keeps_follows dots first [] r e = keeps_letter dots first
keeps_follows dots first (b ∷ s) r e =
    let z = keeps_front dots first b (s ++ r) e in
    keeps_on dots first b (s ++ ascii "a") z.0 ∙ keeps_follows dots (eqb b dot) s r z.1

keeps_low : (dots first : Bool) (s r : List ℕ) (b : ℕ) → keeps dots first (s ++ (b ∷ r)) ≡ true → b < 128
keeps_low dots first [] r b e = stands_low dots first b (keeps_front dots first b r e).0
keeps_low dots first (c ∷ s) r b e = keeps_low dots (eqb c dot) s r b (keeps_front dots first c (s ++ (b ∷ r)) e).1

-- ---- the rules

-- of a rule: something keeps it; where any string that keeps it begins with s, s and a letter does; and none has a byte above 127
pub record Lettered (keeps : List ℕ → Bool) : Type 0 where
  pub some : can_begin keeps [] ≡ true
  pub letter_follows : (s : List ℕ) → Begins keeps s → can_begin keeps s ≡ true
  pub low : (s r : List ℕ) (b : ℕ) → keeps (s ++ (b ∷ r)) ≡ true → b < 128

pub simple_lettered : Lettered is_simple
unfolding can_begin every is_first is_letter is_within is_simple
simple_lettered = record {
  some = refl;
  letter_follows = λ s b. sym (keeps_simple (s ++ ascii "a")) ∙ keeps_follows false true s b.rest (keeps_simple (s ++ b.rest) ∙ b.whole);
  low = λ s r b e. keeps_low false true s r b (keeps_simple (s ++ (b ∷ r)) ∙ e);
}

dotted_follows : (s r : List ℕ) → is_dotted (s ++ r) ≡ true → is_dotted (s ++ ascii "a") ≡ true
dotted_follows s r e = sym (keeps_dotted (s ++ ascii "a")) ∙ keeps_follows true true s r (keeps_dotted (s ++ r) ∙ e)

dotted_low : (s r : List ℕ) (b : ℕ) → is_dotted (s ++ (b ∷ r)) ≡ true → b < 128
dotted_low s r b e = keeps_low true true s r b (keeps_dotted (s ++ (b ∷ r)) ∙ e)

-- a name, by its first byte
pub name_dot : (b : ℕ) (s : List ℕ) → eqb b dot ≡ true → is_name (b ∷ s) ≡ is_simple s
unfolding starts_with_dot
name_dot b s e = name_lead (b ∷ s) e

pub name_joined : (b : ℕ) (s : List ℕ) → eqb b dot ≡ false → is_name (b ∷ s) ≡ is_dotted (b ∷ s)
unfolding starts_with_dot
name_joined b s e = name_else (b ∷ s) e

name_begun : can_begin is_name [] ≡ true
unfolding can_begin every is_first is_letter is_within is_simple is_name
name_begun = refl

name_follows : (s : List ℕ) → Begins is_name s → can_begin is_name s ≡ true
unfolding can_begin
name_follows [] b = name_begun
name_follows (c ∷ s) b = go (eqb c dot) refl
  where
    go : (x : Bool) → eqb c dot ≡ x → is_name (c ∷ (s ++ ascii "a")) ≡ true
    go true e =
        name_dot c (s ++ ascii "a") e ∙ simple_lettered.letter_follows s (record { rest = b.rest; whole = sym (name_dot c (s ++ b.rest) e) ∙ b.whole })
    go false e = name_joined c (s ++ ascii "a") e ∙ dotted_follows (c ∷ s) b.rest (sym (name_joined c (s ++ b.rest) e) ∙ b.whole)

name_low : (s r : List ℕ) (b : ℕ) → is_name (s ++ (b ∷ r)) ≡ true → b < 128
name_low [] r b h = go (eqb b dot) refl
  where
    go : (x : Bool) → eqb b dot ≡ x → b < 128
    go true e = let z = eqb-true b dot e in omega arith
    go false e = dotted_low [] r b (sym (name_joined b r e) ∙ h)
name_low (c ∷ s) r b h = go (eqb c dot) refl
  where
    go : (x : Bool) → eqb c dot ≡ x → b < 128
    go true e = simple_lettered.low s r b (sym (name_dot c (s ++ (b ∷ r)) e) ∙ h)
    go false e = dotted_low (c ∷ s) r b (sym (name_joined c (s ++ (b ∷ r)) e) ∙ h)

pub name_lettered : Lettered is_name
name_lettered = record { some = name_begun; letter_follows = name_follows; low = name_low }

-- a namespace that has a byte
pub namespace_joined : (s : List ℕ) (b : ℕ) (r : List ℕ) → is_namespace (s ++ (b ∷ r)) ≡ is_dotted (s ++ (b ∷ r))
namespace_joined s b r =
    let l = length-append s (b ∷ r) in
    sym (namespace_some (s ++ (b ∷ r)) (λ (e : length (s ++ (b ∷ r)) ≡ 0). omega arith))

namespace_begun : can_begin is_namespace [] ≡ true
unfolding can_begin
namespace_begun = namespace_joined [] 97 [] ∙ sym (keeps_dotted (ascii "a")) ∙ keeps_letter true true

namespace_follows : (s r : List ℕ) → is_namespace (s ++ r) ≡ true → can_begin is_namespace s ≡ true
unfolding can_begin is_namespace is_empty
namespace_follows [] r e = namespace_begun
namespace_follows (c ∷ s) r e = dotted_follows (c ∷ s) r e

pub namespace_lettered : Lettered is_namespace
namespace_lettered = record {
  some = namespace_begun;
  letter_follows = λ s b. namespace_follows s b.rest b.whole;
  low = λ s r b e. dotted_low s r b (sym (namespace_joined s b r) ∙ e);
}
