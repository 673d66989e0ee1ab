-- Laws of the bytes of a string, and turns of the loops over them.
-- Assumes nothing.
use mathlib.Core.Path.{◌≡◌, refl, sym, ap, ◌∙◌, subst}
use mathlib.Core.Bool.{Bool, true, false, cond}
use mathlib.Core.List.{List, [], ◌∷◌, ◌++◌}
use Prim.Native.Nat.{ℕ, zero, suc, ◌+◌, ◌-◌, ◌*◌, ◌/◌, ◌%◌, ◌<◌, ◌≤◌}
use native.Mathlib.Numerals.{add-one}
use native.Mathlib.Omega.{arith}
use native.Mathlib.Decide.{dec_lt, dec_le}
use lib.Dec.{eqb, ltb, leb}
use lib.ListN.{length, get_or, take, drop, set, drop_of_length-le, length-take, length-append}
use lib.Seq.{drop-cons, drop-nil, get_or-take, drop-append-le, drop-append_seam}
use borrow.Author.Tests.{eq-eqb, ne_eqb, ltb-false, leb-true, eqb-true, eqb-false}
use Rattle.ground.specs.Bytes.{byte_at, same, store}
use Rattle.ground.proofs.Laws.{byte_past, store_cons, same_unlike}
use Rattle.view.specs.declared.strings.Piece.{Piece}
use Rattle.view.specs.declared.strings.Cursor.{Cursor}
use Rattle.view.specs.Strings.{hex_of, unit_at, utf8_of, short_of, Part, part_of, part_at, is_stop, string_from, bytes_from, string_at, Spells, left_of, Within, Reads}
use Rattle.view.proofs.Places.{never}
use Rattle.std.specs.Prelude.{Option, Some, None}

-- ---- the cases of an escape
module _ (t : List ℕ) (p : ℕ) where
  pub part_plain : {b : ℕ} → b ≡ byte_at t p → (b ≡ 92 → ⊥) → part_of (p + 1) (b ∷ []) ≡ part_at t p
  unfolding part_at
  part_plain {b} e n = rw (← e, ne_eqb b 92 n)

  module _ (h : byte_at t p ≡ 92) {c : ℕ} (f : c ≡ byte_at t (p + 1)) where
    pub part_letter : (c ≡ 117 → ⊥) → {s : ℕ} → s ≡ short_of c → part_of (p + 2) (s ∷ []) ≡ part_at t p
    unfolding part_at
    part_letter n g = rw (h, ← f, ne_eqb c 117 n, ← g)

    module _ (i : c ≡ 117) {u : ℕ} (j : u ≡ unit_at t (p + 2)) where
      pub part_single : (u / 1024 ≡ 54 → ⊥) → part_of (p + 6) (utf8_of u) ≡ part_at t p
      unfolding part_at
      part_single n = rw (h, ← f, eq-eqb c 117 i, ← j, ne_eqb (u / 1024) 54 n)

      pub part_pair : u / 1024 ≡ 54 → {l : ℕ} → l ≡ unit_at t (p + 8) → part_of (p + 12) (utf8_of (65536 + u % 1024 * 1024 + l % 1024)) ≡ part_at t p
      unfolding part_at
      part_pair n g = rw (h, ← f, eq-eqb c 117 i, ← j, eq-eqb (u / 1024) 54 n, ← g)

-- ---- how many bytes there are
pub hex_small : (b : ℕ) → hex_of b < 16
unfolding hex_of
hex_small b = go (ltb b 48) (leb b 57) refl (ltb b 65) (leb b 70) refl (ltb b 97) (leb b 102) refl
  where
    go : (u v : Bool) → leb b 57 ≡ v → (w x : Bool) → leb b 70 ≡ x → (y z : Bool) → leb b 102 ≡ z
        → cond u 0 (cond v (b - 48) (cond w 0 (cond x (b - 55) (cond y 0 (cond z (b - 87) 0))))) < 16
    go true v e w x f y z g = omega arith
    go false true e w x f y z g = let h = leb-true b 57 e in omega arith
    go false false e true x f y z g = omega arith
    go false false e false true f y z g = let h = leb-true b 70 f in omega arith
    go false false e false false f true z g = omega arith
    go false false e false false f false true g = let h = leb-true b 102 g in omega arith
    go false false e false false f false false g = omega arith

module _ (t : List ℕ) (p : ℕ) where
  pub unit_small : unit_at t p < 65536
  unfolding unit_at
  unit_small =
      let a = hex_small (byte_at t p) in
      let b = hex_small (byte_at t (p + 1)) in
      let c = hex_small (byte_at t (p + 2)) in
      let d = hex_small (byte_at t (p + 3)) in
      omega arith

  hex_past : (q : ℕ) → length t ≤ q → hex_of (byte_at t q) ≡ 0
  unfolding hex_of
  hex_past q h = rw (byte_past t q h)

  -- a unit that is cut off by the text's end
  unit_past : length t ≤ p → unit_at t p ≡ 0
  unfolding unit_at
  unit_past h =
      let a = hex_past p h in
      let b = hex_past (p + 1) (omega arith) in
      let c = hex_past (p + 2) (omega arith) in
      let d = hex_past (p + 3) (omega arith) in
      omega arith

  unit_cut : length t ≤ p + 1 → unit_at t p / 1024 ≡ 54 → ⊥
  unfolding unit_at
  unit_cut h e =
      let b = hex_past (p + 1) (omega arith) in
      let c = hex_past (p + 2) (omega arith) in
      let d = hex_past (p + 3) (omega arith) in
      omega arith

module _ (c : ℕ) where
  utf8_some : 0 < length (utf8_of c)
  unfolding utf8_of
  utf8_some = go (ltb c 128) (ltb c 2048) (ltb c 65536)
    where
      go : (x y z : Bool) → 0 < length (cond x (c ∷ []) (cond y ((192 + c / 64) ∷ (128 + c % 64) ∷ [])
          (cond z ((224 + c / 4096) ∷ (128 + c / 64 % 64) ∷ (128 + c % 64) ∷ [])
          ((240 + c / 262144) ∷ (128 + c / 4096 % 64) ∷ (128 + c / 64 % 64) ∷ (128 + c % 64) ∷ []))))
      go true y z = omega arith
      go false true z = omega arith
      go false false true = omega arith
      go false false false = omega arith

  utf8_few : length (utf8_of c) ≤ 4
  unfolding utf8_of
  utf8_few = go (ltb c 128) (ltb c 2048) (ltb c 65536)
    where
      go : (x y z : Bool) → length (cond x (c ∷ []) (cond y ((192 + c / 64) ∷ (128 + c % 64) ∷ [])
          (cond z ((224 + c / 4096) ∷ (128 + c / 64 % 64) ∷ (128 + c % 64) ∷ [])
          ((240 + c / 262144) ∷ (128 + c / 4096 % 64) ∷ (128 + c / 64 % 64) ∷ (128 + c % 64) ∷ [])))) ≤ 4
      go true y z = omega arith
      go false true z = omega arith
      go false false true = omega arith
      go false false false = omega arith

  utf8_three : c < 65536 → length (utf8_of c) ≤ 3
  unfolding utf8_of
  utf8_three h = go (ltb c 128) (ltb c 2048) (ltb c 65536) refl
    where
      go : (x y z : Bool) → ltb c 65536 ≡ z → length (cond x (c ∷ []) (cond y ((192 + c / 64) ∷ (128 + c % 64) ∷ [])
          (cond z ((224 + c / 4096) ∷ (128 + c / 64 % 64) ∷ (128 + c % 64) ∷ [])
          ((240 + c / 262144) ∷ (128 + c / 4096 % 64) ∷ (128 + c / 64 % 64) ∷ (128 + c % 64) ∷ [])))) ≤ 3
      go true y z e = omega arith
      go false true z e = omega arith
      go false false true e = omega arith
      go false false false e = let l = ltb-false c 65536 e in absurd (omega arith)

utf8_one : length (utf8_of 0) ≡ 1
unfolding utf8_of
utf8_one = refl

-- a single escape is no longer than its text, cut off or not
single_room : (t : List ℕ) (p u : ℕ) → p < length t → u ≡ unit_at t (p + 2) → length (utf8_of u) + p ≤ length t
single_room t p u h e = go (dec_lt (p + 2) (length t))
  where
    go : Dec (p + 2 < length t) → length (utf8_of u) + p ≤ length t
    go (yes l) = let a = unit_small t (p + 2) in let b = utf8_three u (omega arith) in omega arith
    go (no n) =
        let a = unit_past t (p + 2) (omega arith) in
        let b = ap (λ (x : ℕ). length (utf8_of x)) (e ∙ a) ∙ utf8_one in
        omega arith

pair_room : (t : List ℕ) (p c : ℕ) → unit_at t (p + 2) / 1024 ≡ 54 → length (utf8_of c) + p ≤ length t
pair_room t p c e = go (dec_lt (p + 3) (length t))
  where
    go : Dec (p + 3 < length t) → length (utf8_of c) + p ≤ length t
    go (yes l) = let b = utf8_few c in omega arith
    go (no n) = absurd (unit_cut t (p + 2) (omega arith) e)

-- one part: it has a byte, it goes forth, and it is no longer than its text
pub record Holds (t : List ℕ) (p : ℕ) (x : Part) : Type 0 where
  pub some : 0 < length x.bytes
  pub ahead : p < x.next
  pub short : length x.bytes + p ≤ x.next
  pub room : p < length t → length x.bytes + p ≤ length t

pub part_holds : (t : List ℕ) (p : ℕ) → Holds t p (part_at t p)
unfolding part_at
part_holds t p = go (eqb (byte_at t p) 92) (eqb (byte_at t (p + 1)) 117) (eqb (unit_at t (p + 2) / 1024) 54) refl
  where
    go : (x y z : Bool) → eqb (unit_at t (p + 2) / 1024) 54 ≡ z → Holds t p (cond x (cond y (cond z
        (part_of (p + 12) (utf8_of (65536 + unit_at t (p + 2) % 1024 * 1024 + unit_at t (p + 8) % 1024)))
        (part_of (p + 6) (utf8_of (unit_at t (p + 2))))) (part_of (p + 2) (short_of (byte_at t (p + 1)) ∷ []))) (part_of (p + 1) (byte_at t p ∷ [])))
    go true true true e =
        let c = 65536 + unit_at t (p + 2) % 1024 * 1024 + unit_at t (p + 8) % 1024 in
        let f = utf8_few c in
        record { some = utf8_some c; ahead = omega arith; short = omega arith; room = λ _. pair_room t p c (eqb-true (unit_at t (p + 2) / 1024) 54 e) }
    go true true false e =
        let f = utf8_few (unit_at t (p + 2)) in
        record { some = utf8_some (unit_at t (p + 2)); ahead = omega arith; short = omega arith; room = λ h. single_room t p (unit_at t (p + 2)) h refl }
    go true false z e = record { some = omega arith; ahead = omega arith; short = omega arith; room = λ (h : p < length t). omega arith }
    go false y z e = record { some = omega arith; ahead = omega arith; short = omega arith; room = λ (h : p < length t). omega arith }

-- a part whose first byte is in ASCII has no other
utf8_alone : (c b : ℕ) (rest : List ℕ) → utf8_of c ≡ b ∷ rest → b < 128 → rest ≡ []
unfolding utf8_of
utf8_alone c b rest e h = go (ltb c 128) (ltb c 2048) (ltb c 65536) e
  where
    go : (x y z : Bool) → cond x (c ∷ []) (cond y ((192 + c / 64) ∷ (128 + c % 64) ∷ [])
        (cond z ((224 + c / 4096) ∷ (128 + c / 64 % 64) ∷ (128 + c % 64) ∷ [])
        ((240 + c / 262144) ∷ (128 + c / 4096 % 64) ∷ (128 + c / 64 % 64) ∷ (128 + c % 64) ∷ []))) ≡ b ∷ rest → rest ≡ []
    go true y z e = let f : [] ≡ rest = cc in sym f
    go false true z e = let f : 192 + c / 64 ≡ b = cc in absurd (omega arith)
    go false false true e = let f : 224 + c / 4096 ≡ b = cc in absurd (omega arith)
    go false false false e = let f : 240 + c / 262144 ≡ b = cc in absurd (omega arith)

pub low_alone : (t : List ℕ) (p b : ℕ) (rest : List ℕ) → (part_at t p).bytes ≡ b ∷ rest → b < 128 → rest ≡ []
unfolding part_at
low_alone t p b rest e h = go (eqb (byte_at t p) 92) (eqb (byte_at t (p + 1)) 117) (eqb (unit_at t (p + 2) / 1024) 54) e
  where
    go : (x y z : Bool) → (cond x (cond y (cond z
        (part_of (p + 12) (utf8_of (65536 + unit_at t (p + 2) % 1024 * 1024 + unit_at t (p + 8) % 1024)))
        (part_of (p + 6) (utf8_of (unit_at t (p + 2))))) (part_of (p + 2) (short_of (byte_at t (p + 1)) ∷ []))) (part_of (p + 1) (byte_at t p ∷ []))).bytes ≡ b ∷ rest → rest ≡ []
    go true true true e = utf8_alone (65536 + unit_at t (p + 2) % 1024 * 1024 + unit_at t (p + 8) % 1024) b rest e h
    go true true false e = utf8_alone (unit_at t (p + 2)) b rest e h
    go true false z e = let f : [] ≡ rest = cc in sym f
    go false y z e = let f : [] ≡ rest = cc in sym f

-- a piece begins with its first byte
pub spells_first : {x : Piece} {y : Part} → Spells x y → y.bytes ≡ get_or x.bytes 0 0 ∷ drop 1 y.bytes
spells_first {x} {y} s =
    let a = s.some in
    let f = s.four in
    let l = length-take x.n x.bytes in
    let k : 0 < length (take x.n x.bytes) = omega arith in
    let b = drop-cons (take x.n x.bytes) 0 0 k ∙ ap (λ (c : ℕ). c ∷ drop 1 (take x.n x.bytes)) (get_or-take x.n x.bytes 0 0 a) in
    subst (λ (z : Part). z.bytes ≡ get_or x.bytes 0 0 ∷ drop 1 z.bytes) s.is b

-- ---- a string, part by part
pub past_stop : (t : List ℕ) (p : ℕ) → length t ≤ p → is_stop (byte_at t p) ≡ true
unfolding is_stop
past_stop t p h = ap (λ (x : ℕ). is_stop x) (byte_past t p h)

-- what is no stop stands within the text
pub stop_in : (t : List ℕ) (p b : ℕ) → b ≡ byte_at t p → is_stop b ≡ false → p < length t
stop_in t p b e f = go (dec_lt p (length t))
  where
    go : Dec (p < length t) → p < length t
    go (yes l) = l
    go (no n) = never (sym f ∙ ap (λ (x : ℕ). is_stop x) e ∙ past_stop t p (omega arith))

stopped : (t : List ℕ) (n p : ℕ) → is_stop (byte_at t p) ≡ true → string_from t n p ≡ []
unfolding string_from
stopped t zero p e = refl
stopped t (suc n) p e = rw e

enough : (t : List ℕ) (n m p : ℕ) → length t ≤ n + p → length t ≤ m + p → string_from t n p ≡ string_from t m p
unfolding string_from
enough t zero m p a b = sym (stopped t m p (past_stop t p (omega arith)))
enough t (suc n) zero p a b = stopped t (suc n) p (past_stop t p (omega arith))
enough t (suc n) (suc m) p a b =
    let o = (part_holds t p).ahead in
    ap (λ (l : List ℕ). cond (is_stop (byte_at t p)) [] ((part_at t p).bytes ++ l)) (enough t n m (part_at t p).next (omega arith) (omega arith))

module _ (t : List ℕ) (p : ℕ) where
  pub bytes_stop : is_stop (byte_at t p) ≡ true → bytes_from t p ≡ []
  unfolding bytes_from
  bytes_stop e = stopped t (suc (length t)) p e

  -- the fuel is no limit
  pub bytes_next : is_stop (byte_at t p) ≡ false → bytes_from t p ≡ (part_at t p).bytes ++ bytes_from t (part_at t p).next
  unfolding bytes_from string_from
  bytes_next e =
      let o = (part_holds t p).ahead in
      rw e (ap (λ (l : List ℕ). (part_at t p).bytes ++ l) (enough t (length t) (suc (length t)) (part_at t p).next (omega arith) (omega arith)))

room : (t : List ℕ) (n p : ℕ) → length (string_from t n p) ≤ length t - p
unfolding string_from
room t zero p = omega arith
room t (suc n) p = go (room t n (part_at t p).next) (is_stop (byte_at t p)) refl
  where
    go : length (string_from t n (part_at t p).next) ≤ length t - (part_at t p).next → (x : Bool) → is_stop (byte_at t p) ≡ x → length (cond x [] ((part_at t p).bytes ++ string_from t n (part_at t p).next)) ≤ length t - p
    go i true e = omega arith
    go i false e =
        let l = stop_in t p (byte_at t p) refl e in
        let h = part_holds t p in
        let r = h.room l in
        let a = length-append (part_at t p).bytes (string_from t n (part_at t p).next) in
        let s = h.short in
        omega arith

pub bytes_short : (t : List ℕ) (p : ℕ) → length (bytes_from t p) ≤ length t - p
unfolding bytes_from
bytes_short t p = room t (suc (length t)) p

-- a string is shorter than its text
pub string_short : (t : List ℕ) (p : ℕ) → length (string_at t p) ≤ length t
unfolding string_at
string_short t p = go (eqb (byte_at t p) 34)
  where
    go : (x : Bool) → length (cond x (bytes_from t (p + 1)) []) ≤ length t
    go true = let h = bytes_short t (p + 1) in omega arith
    go false = omega arith

-- ---- one byte after the other
abbrev cursor : ℕ → ℕ → Cursor
cursor p i = record { at = p; passed = i }

fresh : (t : List ℕ) (p : ℕ) → Within t (cursor p 0)
fresh t p = record { within = (part_holds t p).some }

module _ (t : List ℕ) (c : Cursor) {b : ℕ} (e : b ≡ byte_at t c.at) where
  pub read_stop : is_stop b ≡ true → Reads t (left_of t c) None
  unfolding left_of
  read_stop f = record { reads = ap (λ (l : List ℕ). drop c.passed l) (bytes_stop t c.at (ap (λ (x : ℕ). is_stop x) (sym e) ∙ f)) ∙ drop-nil c.passed }

  module _ (f : is_stop b ≡ false) (w : Within t c) where
    next : bytes_from t c.at ≡ (part_at t c.at).bytes ++ bytes_from t (part_at t c.at).next
    next = bytes_next t c.at (ap (λ (x : ℕ). is_stop x) (sym e) ∙ f)

    pub read_plain : (b ≡ 92 → ⊥) → Reads t (left_of t c) (Some (b, cursor (c.at + 1) 0))
    unfolding left_of
    read_plain n =
        let p = part_plain t c.at e n in
        let v : c.passed < length (b ∷ []) = subst (λ (x : Part). c.passed < length x.bytes) (sym p) w.within in
        let z : c.passed ≡ 0 = omega arith in
        record { reads = (rw z (next ∙ ap (λ (x : Part). x.bytes ++ bytes_from t x.next) (sym p)), fresh t (c.at + 1)) }

    module _ (x : Piece) (s : Spells x (part_at t c.at)) where
      -- the byte at a place of the piece, and what follows
      pub here : (i : ℕ) → c.passed ≡ i → i < x.n
      here i z =
          let v : c.passed < length (take x.n x.bytes) = subst (λ (y : Part). c.passed < length y.bytes) (sym s.is) w.within in
          let l = length-take x.n x.bytes in
          omega arith

      piece : bytes_from t c.at ≡ take x.n x.bytes ++ bytes_from t x.next
      piece = next ∙ ap (λ (y : Part). y.bytes ++ bytes_from t y.next) (sym s.is)

      sized : length (take x.n x.bytes) ≡ x.n
      sized = let l = length-take x.n x.bytes in let f = s.few in let g = s.four in omega arith

      byte : drop c.passed (bytes_from t c.at) ≡ get_or x.bytes c.passed 0 ∷ drop (c.passed + 1) (bytes_from t c.at)
      byte =
          let h = here c.passed refl in
          let z = sized in
          let k : c.passed < length (take x.n x.bytes) = omega arith in
          rw (piece, add-one, drop-append-le c.passed (take x.n x.bytes) (bytes_from t x.next) (omega arith), drop-append-le (suc c.passed) (take x.n x.bytes) (bytes_from t x.next) (omega arith), drop-cons (take x.n x.bytes) c.passed 0 k, get_or-take x.n x.bytes c.passed 0 h)

      pub read_more : c.passed + 1 < x.n → Reads t (left_of t c) (Some (get_or x.bytes c.passed 0, (cursor c.at (c.passed + 1))))
      unfolding left_of
      read_more l =
          let z = sized in
          let k : c.passed + 1 < length (take x.n x.bytes) = omega arith in
          record { reads = (byte, record { within = subst (λ (y : Part). c.passed + 1 < length y.bytes) s.is k }) }

      pub read_last : x.n ≤ c.passed + 1 → Reads t (left_of t c) (Some (get_or x.bytes c.passed 0, (cursor x.next 0)))
      unfolding left_of
      read_last l =
          let z = sized in
          let h = here c.passed refl in
          let k : c.passed + 1 ≡ length (take x.n x.bytes) = omega arith in
          record { reads = (byte ∙ ap (λ (y : List ℕ). get_or x.bytes c.passed 0 ∷ y) (ap (λ (i : ℕ). drop i (bytes_from t c.at)) k ∙ ap (λ (y : List ℕ). drop (length (take x.n x.bytes)) y) piece ∙ drop-append_seam (take x.n x.bytes) (bytes_from t x.next)), fresh t x.next) }

-- the string's first byte
module _ (t : List ℕ) (p b : ℕ) (e : b ≡ byte_at t p) where
  pub opened : b ≡ 34 → (left_of t (cursor (p + 1) 0) ≡ string_at t p) × Within t (cursor (p + 1) 0)
  unfolding left_of string_at
  opened f = (rw (← e, eq-eqb b 34 f), fresh t (p + 1))

  pub unopened : (b ≡ 34 → ⊥) → (left_of t (cursor (length t) 0) ≡ string_at t p) × Within t (cursor (length t) 0)
  unfolding left_of string_at
  unopened f = (rw (← e, ne_eqb b 34 f) (bytes_stop t (length t) (past_stop t (length t) (omega arith))), fresh t (length t))

-- ---- what a step tells
module _ {t l : List ℕ} {s : Option (ℕ × Cursor)} (r : Reads t l s) where
  pub read_end : s ≡ None → l ≡ []
  read_end e = (subst (λ (x : Option (ℕ × Cursor)). Reads t l x) e r).reads

  pub read_byte : {b : ℕ} {d : Cursor} → s ≡ Some (b, d) → l ≡ b ∷ left_of t d
  read_byte e = (subst (λ (x : Option (ℕ × Cursor)). Reads t l x) e r).reads.0

  pub read_within : {b : ℕ} {d : Cursor} → s ≡ Some (b, d) → Within t d
  read_within e = (subst (λ (x : Option (ℕ × Cursor)). Reads t l x) e r).reads.1

-- ---- a length against a number: so many bytes may still come as are left
module _ (s n more left : ℕ) (inv : n + left ≡ s + more) where
  pub count_end : left ≡ 0 → eqb more 0 ≡ eqb s n
  count_end e = go (dec_le more 0)
    where
      go : Dec (more ≤ 0) → eqb more 0 ≡ eqb s n
      go (yes l) = rw (eq-eqb more 0 (omega arith), eq-eqb s n (omega arith))
      go (no l) = rw (ne_eqb more 0 (λ (f : more ≡ 0). l (omega arith)), ne_eqb s n (λ (f : s ≡ n). l (omega arith)))

  pub count_past : 0 < left → more ≡ 0 → false ≡ eqb s n
  count_past l e = sym (ne_eqb s n (λ (f : s ≡ n). omega arith))

-- ---- lengths first
module _ (a b : List ℕ) {r : Bool} (e : r ≡ eqb (length a) (length b)) where
  pub lengths_differ : r ≡ false → false ≡ same a b
  lengths_differ h = sym (same_unlike a b (eqb-false (length a) (length b) (sym e ∙ h)))

  pub lengths_agree : r ≡ true → length a ≡ length b
  lengths_agree h = eqb-true (length a) (length b) (sym e ∙ h)

none_left : (l : List ℕ) → 0 ≡ length l → l ≡ []
none_left [] e = refl
none_left (b ∷ l) e = absurd (omega arith)

-- ---- a string against a word
module _ (w l : List ℕ) (i : ℕ) {x : Bool} (inv : same l (drop i w) ≡ x) where
  pub word_end : length w ≤ i → length w ≡ i + length l → true ≡ x
  unfolding same
  word_end h e = rw (drop_of_length-le w h, none_left l (omega arith)) at inv

  pub word_short : i < length w → length w ≡ i + length l → l ≡ [] → false ≡ x
  word_short h e f = let z = ap length f in absurd (omega arith)

  module _ {b : ℕ} {k : List ℕ} (e : l ≡ b ∷ k) (h : i < length w) where
    pub word_differ : (get_or w i 0 ≡ b → ⊥) → false ≡ x
    unfolding same
    word_differ n = rw (drop-cons w i 0 h, e, ne_eqb b (get_or w i 0) (λ f. n (sym f))) at inv

    pub word_turn : get_or w i 0 ≡ b → same k (drop (i + 1) w) ≡ x
    unfolding same
    word_turn f = rw (drop-cons w i 0 h, e, eq-eqb b (get_or w i 0) (sym f), ← add-one) at inv

-- ---- two strings
module _ (l m : List ℕ) {x : Bool} (inv : same l m ≡ x) where
  pub both_end : length l ≡ length m → l ≡ [] → true ≡ x
  unfolding same
  both_end h e = rw (e, none_left m (sym (ap length e) ∙ h)) at inv

  module _ {b : ℕ} {k : List ℕ} (e : l ≡ b ∷ k) where
    pub other_ends : m ≡ [] → false ≡ x
    unfolding same
    other_ends f = rw (e, f) at inv

    module _ {c : ℕ} {n : List ℕ} (f : m ≡ c ∷ n) where
      pub bytes_differ : (b ≡ c → ⊥) → false ≡ x
      unfolding same
      bytes_differ d = rw (e, f, ne_eqb b c d) at inv

      pub bytes_turn : b ≡ c → same k n ≡ x
      unfolding same
      bytes_turn d = rw (e, f, eq-eqb b c d) at inv

-- ---- a copy
pub copy_end : (m l x : List ℕ) (i : ℕ) → store m i l ≡ x → l ≡ [] → m ≡ x
unfolding store
copy_end m l x i inv e = rw e at inv

pub copy_turn : (m l x k : List ℕ) (i b : ℕ) → store m i l ≡ x → l ≡ b ∷ k → {after : List ℕ} → after ≡ set m i b → store after (i + 1) k ≡ x
copy_turn m l x k i b inv e d = rw (d, ← store_cons, ← e) inv
