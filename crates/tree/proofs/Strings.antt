-- A string of the grammar, where it stands in a text: the view has its characters.
-- Assumes nothing.
use mathlib.Core.Path.{◌≡◌, refl, sym, ap, ◌∙◌}
use mathlib.Core.Bool.{false}
use mathlib.Core.List.{List, [], ◌∷◌, ◌++◌, append_assoc}
use Prim.Native.Nat.{ℕ, ◌+◌, ◌*◌, ◌/◌ as ◌÷◌, ◌%◌, ◌≤◌}
use native.Mathlib.Omega.{arith}
use lib.Dec.{leb-suc-suc}
use lib.ListN.{length, drop, length-append}
use borrow.Author.Tests.{eq-eqb, ne_eqb, le-ltb}
use Rattle.view.specs.Strings.{hex_of, unit_at, utf8_of, short_of, Part, part_of, part_at, is_stop, bytes_from, string_at}
use Rattle.view.proofs.Laws.{bytes_stop, bytes_next}
use Rattle.viewed.proofs.Values.{byte_here}
use Rattle.grammar.specs.Grammar.{bytes, Byte, Range, within, ◌·◌, join, ◌or◌, this, that, Many, none, more, UTF8_tail, UTF8_2, UTF8_3, UTF8_4, unescaped, hexchar, short, char, string}
use Rattle.tree.specs.Utf8.{utf8}
use Rattle.tree.specs.Characters.{letter, hexadecimal, paired, unicode, character, characters, string_of}
use Rattle.tree.proofs.Standing.{past}
use Rattle.tree.proofs.Digits.{Four, four, four_number, Single, High, Low, single, high, low}

-- such a byte does not end a string
no_stop : (b : ℕ) → 32 ≤ b → (b ≡ 34 → ⊥) → is_stop b ≡ false
unfolding is_stop
no_stop b l n = rw (ne_eqb b 34 n, le-ltb b 32 l)

module _ (t : List ℕ) (p : ℕ) where
  -- one part
  part_seen : (b : ℕ) (u : List ℕ) → drop p t ≡ b ∷ u → 32 ≤ b → (b ≡ 34 → ⊥) → {x : Part} → part_at t p ≡ x → bytes_from t p ≡ x.bytes ++ bytes_from t x.next
  part_seen b u e l n f =
      bytes_next t p (ap is_stop (byte_here t p b u e) ∙ no_stop b l n) ∙ ap (λ (x : Part). x.bytes ++ bytes_from t x.next) f

  -- a byte that stands for itself
  plain_seen : (b : ℕ) (u : List ℕ) → drop p t ≡ b ∷ u → 32 ≤ b → (b ≡ 34 → ⊥) → (b ≡ 92 → ⊥) → bytes_from t p ≡ b ∷ bytes_from t (p + 1)
  unfolding part_at
  plain_seen b u e l n m = part_seen b u e l n {x = part_of (p + 1) (b ∷ [])} (rw (byte_here t p b u e, ne_eqb b 92 m))

-- the view has the bytes of the rule as they stand
record Copies (P : List ℕ → Type 0) : Type 0 where
  copies : (t : List ℕ) (p : ℕ) (s : List ℕ) → P s → (u : List ℕ) → drop p t ≡ s ++ u → bytes_from t p ≡ s ++ bytes_from t (p + length s)

copy_range : (lo hi : ℕ) → ((b : ℕ) → lo ≤ b → b ≤ hi → (32 ≤ b) × (b ≡ 34 → ⊥) × (b ≡ 92 → ⊥)) → Copies (Range lo hi)
copy_range lo hi h = record { copies = λ t p s d u e. on t p d u e }
  where
    on : (t : List ℕ) (p : ℕ) {s : List ℕ} → Range lo hi s → (u : List ℕ) → drop p t ≡ s ++ u → bytes_from t p ≡ s ++ bytes_from t (p + length s)
    on t p (within {b} l g) u e = let k = h b l g in plain_seen t p b u e k.0 k.1 k.2

copy_byte : (x : ℕ) → 32 ≤ x → (x ≡ 34 → ⊥) → (x ≡ 92 → ⊥) → Copies (Byte x)
copy_byte x l n m = record { copies = λ t p s d u e. on t p d u e }
  where
    on : (t : List ℕ) (p : ℕ) {s : List ℕ} → Byte x s → (u : List ℕ) → drop p t ≡ s ++ u → bytes_from t p ≡ s ++ bytes_from t (p + length s)
    on t p bytes u e = plain_seen t p x u e l n m

module _ {P Q : List ℕ → Type 0} (c : Copies P) (k : Copies Q) where
  copy_alt : Copies (P or Q)
  copy_alt = record { copies = λ t p s d u e. on t p d u e }
    where
      on : (t : List ℕ) (p : ℕ) {s : List ℕ} → (P or Q) s → (u : List ℕ) → drop p t ≡ s ++ u → bytes_from t p ≡ s ++ bytes_from t (p + length s)
      on t p (this d) u e = c.copies t p _ d u e
      on t p (that d) u e = k.copies t p _ d u e

  copy_join : Copies (P · Q)
  copy_join = record { copies = λ t p s d u e. on t p d u e }
    where
      on : (t : List ℕ) (p : ℕ) {s : List ℕ} → (P · Q) s → (u : List ℕ) → drop p t ≡ s ++ u → bytes_from t p ≡ s ++ bytes_from t (p + length s)
      on t p (join {s = v} {t = w} d f) u e =
          let e' = e ∙ append_assoc v w u in
          let l = length-append v w in
          let q : p + length v + length w ≡ p + length (v ++ w) = omega arith in
          c.copies t p v d (w ++ u) e'
          ∙ ap (λ (x : List ℕ). v ++ x) (k.copies t (p + length v) w f u (past t p v (w ++ u) e'))
          ∙ sym (append_assoc v w (bytes_from t (p + length v + length w)))
          ∙ ap (λ (x : ℕ). (v ++ w) ++ bytes_from t x) q

-- ---- characters that stand for themselves: in UTF-8 every byte but one of ASCII is 128 or more
copy_wide : (lo hi : ℕ) → 128 ≤ lo → Copies (Range lo hi)
copy_wide lo hi h = copy_range lo hi (λ b l g. omega arith)

copy_one : (x : ℕ) → 128 ≤ x → Copies (Byte x)
copy_one x h = copy_byte x (omega arith) (omega arith) (omega arith)

copy_tail : Copies UTF8_tail
copy_tail = copy_wide 0x80 0xBF (omega arith)

copy_2 : Copies UTF8_2
copy_2 = copy_join (copy_wide 0xC2 0xDF (omega arith)) copy_tail

copy_3 : Copies UTF8_3
copy_3 =
    copy_alt (copy_join (copy_one 0xE0 (omega arith)) (copy_join (copy_wide 0xA0 0xBF (omega arith)) copy_tail))
    (copy_alt (copy_join (copy_wide 0xE1 0xEC (omega arith)) (copy_join copy_tail copy_tail))
    (copy_alt (copy_join (copy_one 0xED (omega arith)) (copy_join (copy_wide 0x80 0x9F (omega arith)) copy_tail))
    (copy_join (copy_wide 0xEE 0xEF (omega arith)) (copy_join copy_tail copy_tail))))

copy_4 : Copies UTF8_4
copy_4 =
    copy_alt (copy_join (copy_one 0xF0 (omega arith)) (copy_join (copy_wide 0x90 0xBF (omega arith)) (copy_join copy_tail copy_tail)))
    (copy_alt (copy_join (copy_wide 0xF1 0xF3 (omega arith)) (copy_join copy_tail (copy_join copy_tail copy_tail)))
    (copy_join (copy_one 0xF4 (omega arith)) (copy_join (copy_wide 0x80 0x8F (omega arith)) (copy_join copy_tail copy_tail))))

copy_unescaped : Copies unescaped
copy_unescaped =
    copy_alt (copy_range 0x20 0x21 (λ b l g. omega arith))
    (copy_alt (copy_range 0x23 0x5B (λ b l g. omega arith))
    (copy_alt (copy_range 0x5D 0x7F (λ b l g. omega arith)) (copy_alt copy_2 (copy_alt copy_3 copy_4))))

-- ---- escapes
module _ (t : List ℕ) (p : ℕ) (u : List ℕ) where
  escape_letter : (b : ℕ) → drop p t ≡ 92 ∷ b ∷ u → (b ≡ 117 → ⊥) → bytes_from t p ≡ short_of b ∷ bytes_from t (p + 2)
  unfolding part_at
  escape_letter b e n =
      part_seen t p 92 (b ∷ u) e (omega arith) (omega arith) {x = part_of (p + 2) (short_of b ∷ [])}
      (rw (byte_here t p 92 (b ∷ u) e, byte_here t (p + 1) b u (past t p (92 ∷ []) (b ∷ u) e), ne_eqb b 117 n))

  module _ (e : drop p t ≡ 92 ∷ 117 ∷ u) (v : ℕ) (f : unit_at t (p + 2) ≡ v) where
    escape_single : (v ÷ 1024 ≡ 54 → ⊥) → bytes_from t p ≡ utf8_of v ++ bytes_from t (p + 6)
    unfolding part_at
    escape_single n =
        part_seen t p 92 (117 ∷ u) e (omega arith) (omega arith) {x = part_of (p + 6) (utf8_of v)}
        (rw (byte_here t p 92 (117 ∷ u) e, byte_here t (p + 1) 117 u (past t p (92 ∷ []) (117 ∷ u) e), f, ne_eqb (v ÷ 1024) 54 n))

    escape_pair : (w : ℕ) → unit_at t (p + 8) ≡ w → v ÷ 1024 ≡ 54 → bytes_from t p ≡ utf8_of (65536 + v % 1024 * 1024 + w % 1024) ++ bytes_from t (p + 12)
    unfolding part_at
    escape_pair w g n =
        part_seen t p 92 (117 ∷ u) e (omega arith) (omega arith) {x = part_of (p + 12) (utf8_of (65536 + v % 1024 * 1024 + w % 1024))}
        (rw (byte_here t p 92 (117 ∷ u) e, byte_here t (p + 1) 117 u (past t p (92 ∷ []) (117 ∷ u) e), f, eq-eqb (v ÷ 1024) 54 n, g))

-- a letter
letter_seen : (t : List ℕ) (p : ℕ) {s : List ℕ} (d : short s) (u : List ℕ) → drop p t ≡ 92 ∷ (s ++ u) → bytes_from t p ≡ utf8 (letter d) ++ bytes_from t (p + length (92 ∷ s))
unfolding letter utf8 short_of
letter_seen t p (this bytes) u e = escape_letter t p u 0x22 e (omega arith)
letter_seen t p (that (this bytes)) u e = escape_letter t p u 0x5C e (omega arith)
letter_seen t p (that (that (this bytes))) u e = escape_letter t p u 0x2F e (omega arith)
letter_seen t p (that (that (that (this bytes)))) u e = escape_letter t p u 0x62 e (omega arith)
letter_seen t p (that (that (that (that (this bytes))))) u e = escape_letter t p u 0x66 e (omega arith)
letter_seen t p (that (that (that (that (that (this bytes)))))) u e = escape_letter t p u 0x6E e (omega arith)
letter_seen t p (that (that (that (that (that (that (this bytes))))))) u e = escape_letter t p u 0x72 e (omega arith)
letter_seen t p (that (that (that (that (that (that (that bytes))))))) u e = escape_letter t p u 0x74 e (omega arith)

-- four digits
module _ {U : ℕ → Type 0} (t : List ℕ) (p : ℕ) where
  unit_seen : {s : List ℕ} → Four U s → (u : List ℕ) → drop p t ≡ s ++ u → unit_at t p ≡ hexadecimal 0 s
  unfolding unit_at hexadecimal
  unit_seen (four {a} {b} {c} {d} f g h k x) u e =
      let i = ap hex_of (byte_here t p a (b ∷ c ∷ d ∷ u) e) ∙ f in
      let j = ap hex_of (byte_here t (p + 1) b (c ∷ d ∷ u) (past t p (a ∷ []) (b ∷ c ∷ d ∷ u) e)) ∙ g in
      let l = ap hex_of (byte_here t (p + 2) c (d ∷ u) (past t p (a ∷ b ∷ []) (c ∷ d ∷ u) e)) ∙ h in
      let m = ap hex_of (byte_here t (p + 3) d u (past t p (a ∷ b ∷ c ∷ []) (d ∷ u) e)) ∙ k in
      omega arith

  -- and a \u past them
  past_unit : {s : List ℕ} → Four U s → (u : List ℕ) → drop p t ≡ 92 ∷ 117 ∷ (s ++ (92 ∷ 117 ∷ u)) → drop (p + 8) t ≡ u
  past_unit (four {a} {b} {c} {d} f g h k x) u e = past t p (92 ∷ 117 ∷ a ∷ b ∷ c ∷ d ∷ 92 ∷ 117 ∷ []) u e

-- the two ways to write a number in UTF-8, and to make one of a pair, are the same
utf8_same : (c : ℕ) → utf8_of c ≡ utf8 c
unfolding utf8_of utf8
utf8_same c = rw (leb-suc-suc c 0x7F, leb-suc-suc c 0x7FF, leb-suc-suc c 0xFFFF)

pair_same : (v w : ℕ) → High v → Low w → 65536 + v % 1024 * 1024 + w % 1024 ≡ paired v w
unfolding paired
pair_same v w h l = omega arith

same_bytes : {v w : ℕ} → v ≡ w → (x : List ℕ) → utf8_of v ++ x ≡ utf8 w ++ x
same_bytes {v} e x = ap (λ (y : List ℕ). y ++ x) (utf8_same v ∙ ap utf8 e)

-- a \u and its digits, or two
module _ (t : List ℕ) (p : ℕ) where
  single_seen : (s u : List ℕ) → Four Single s → drop p t ≡ 92 ∷ 117 ∷ (s ++ u) → bytes_from t p ≡ utf8 (hexadecimal 0 s) ++ bytes_from t (p + 6)
  single_seen s u f e =
      let h = (four_number f).1 in
      escape_single t p (s ++ u) e (hexadecimal 0 s) (unit_seen t (p + 2) f u (past t p (92 ∷ 117 ∷ []) (s ++ u) e)) (λ x. h (omega arith) (omega arith))
      ∙ same_bytes refl (bytes_from t (p + 6))

  pair_seen : (s r u : List ℕ) → Four High s → Four Low r → drop p t ≡ 92 ∷ 117 ∷ (s ++ (92 ∷ 117 ∷ (r ++ u)))
      → bytes_from t p ≡ utf8 (paired (hexadecimal 0 s) (hexadecimal 0 r)) ++ bytes_from t (p + 12)
  pair_seen s r u f g e =
      let h = four_number f in
      escape_pair t p (s ++ (92 ∷ 117 ∷ (r ++ u))) e
      (hexadecimal 0 s) (unit_seen t (p + 2) f (92 ∷ 117 ∷ (r ++ u)) (past t p (92 ∷ 117 ∷ []) (s ++ (92 ∷ 117 ∷ (r ++ u))) e))
      (hexadecimal 0 r) (unit_seen t (p + 8) g u (past_unit t p f (r ++ u) e)) (omega arith)
      ∙ same_bytes (pair_same (hexadecimal 0 s) (hexadecimal 0 r) h (four_number g)) (bytes_from t (p + 12))

-- how long they are
six : {U : ℕ → Type 0} {s : List ℕ} → Four U s → 6 ≡ length (92 ∷ 117 ∷ s)
six (four f g h k x) = refl

twelve : {U W : ℕ → Type 0} {s r : List ℕ} → Four U s → Four W r → 12 ≡ length (92 ∷ 117 ∷ (s ++ (92 ∷ 117 ∷ r)))
twelve (four f g h k x) (four f' g' h' k' x') = refl

unicode_seen : (t : List ℕ) (p : ℕ) {s : List ℕ} (d : hexchar s) (u : List ℕ) → drop p t ≡ 92 ∷ 117 ∷ (s ++ u)
    → bytes_from t p ≡ utf8 (unicode d) ++ bytes_from t (p + length (92 ∷ 117 ∷ s))
unfolding unicode
unicode_seen t p (this {s = s} d) u e =
    single_seen t p s u (single d) e ∙ ap (λ (n : ℕ). utf8 (hexadecimal 0 s) ++ bytes_from t (p + n)) (six (single d))
unicode_seen t p (that (join {s = s} d (join bytes (join {t = r} bytes k)))) u e =
    pair_seen t p s r u (high d) (low k) (e ∙ ap (λ (x : List ℕ). 92 ∷ 117 ∷ x) (append_assoc s (92 ∷ 117 ∷ r) u))
    ∙ ap (λ (n : ℕ). utf8 (paired (hexadecimal 0 s) (hexadecimal 0 r)) ++ bytes_from t (p + n)) (twelve (high d) (low k))

-- ---- characters
char_seen : (t : List ℕ) (p : ℕ) {s : List ℕ} (d : char s) (u : List ℕ) → drop p t ≡ s ++ u → bytes_from t p ≡ character d ++ bytes_from t (p + length s)
unfolding character
char_seen t p (this {s = s} d) u e = copy_unescaped.copies t p s d u e
char_seen t p (that (join bytes (this d))) u e = letter_seen t p d u e
char_seen t p (that (join bytes (that (join bytes d)))) u e = unicode_seen t p d u e

chars_seen : (t : List ℕ) (p : ℕ) {s : List ℕ} (d : Many char s) (u : List ℕ) → drop p t ≡ s ++ (34 ∷ u) → bytes_from t p ≡ characters d
unfolding characters is_stop
chars_seen t p none u e = bytes_stop t p (ap is_stop (byte_here t p 34 u e))
chars_seen t p (more {s = v} {t = w} c cs) u e =
    let e' = e ∙ append_assoc v w (34 ∷ u) in
    char_seen t p c (w ++ (34 ∷ u)) e' ∙ ap (λ (x : List ℕ). character c ++ x) (chars_seen t (p + length v) cs u (past t p v (w ++ (34 ∷ u)) e'))

-- a string of the grammar that stands at p: the view has its characters
pub string_seen : (t : List ℕ) (p : ℕ) {s : List ℕ} (d : string s) (u : List ℕ) → drop p t ≡ s ++ u → string_at t p ≡ string_of d
unfolding string_at string_of
string_seen t p (join bytes (join {s = v} cs bytes)) u e =
    let e' = e ∙ ap (λ (x : List ℕ). 34 ∷ x) (append_assoc v (34 ∷ []) u) in
    rw (byte_here t p 34 (v ++ (34 ∷ u)) e') (chars_seen t (p + 1) cs u (past t p (34 ∷ []) (v ++ (34 ∷ u)) e'))
