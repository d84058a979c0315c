-- Names by number: what stays where one is added, and where one gets another meaning.
use Rattle.std.proofs.Common.{◌≡◌, ℕ, zero, suc, ◌<◌, ◌≤◌, Bool, true, false, refl, sym, ap, subst, ◌∙◌, List, [], ◌∷◌, ◌++◌, length, get_or, Some, slice_get, length-append, arith, ⊎_elim}
use Rattle.std.specs.Prelude.{◌||◌, if◌then◌else◌, slice_set}
use Rattle.std.specs.List.{list_any}
use Rattle.std.specs.Str.{bytes_eq}
use Rattle.std.specs.Cmp.Lexicographic.{same_text}
use Rattle.std.proofs.Math.Path.{ap₂}
use Rattle.std.proofs.lemmas.Cmp.{nat_list_eq_equiv}
use Rattle.std.proofs.lemmas.Option.{same_Some, slice_get_within}
use Rattle.name_table.specs.Places.{with_name}
use Rattle.name_table.specs.NameLaws.{push_at}
use Rattle.dk_read.specs.declared.terms.Meaning.{Meaning}
use Rattle.dk_read.specs.declared.terms.Meaning.TheVariants as meaning
use Rattle.dk_read.specs.Names.{Named, names_of, name_at, looked, is_named, AreDistinct, AreNames, Keeps, Puts}

pub bytes_eq-symm : (xs ys : List ℕ) → bytes_eq xs ys ≡ bytes_eq ys xs
bytes_eq-symm xs ys = nat_list_eq_equiv.symm xs ys

pub bytes_eq-refl : (xs : List ℕ) → bytes_eq xs xs ≡ true
bytes_eq-refl xs = nat_list_eq_equiv.refl xs

neither : (a b : Bool) → (a || b) ≡ false → (a ≡ false) × (b ≡ false)
neither true b h = absurd (cc)
neither false b h = (refl, h)

pub Keeps-same : (es : List Named) → Keeps es es
Keeps-same es = record { longer = omega arith; stays = λ n h. refl }

-- a name that is added
name_at-push : (es : List Named) (e : Named) (n : ℕ) → n < length es → name_at (es ++ e ∷ []) n ≡ name_at es n
name_at-push [] e n h = absurd (omega arith)
name_at-push (x ∷ es) e zero h = refl
name_at-push (x ∷ es) e (suc n) h = name_at-push es e n (omega (arith, h))

pub name_at-last : (es : List Named) (e : Named) → name_at (es ++ e ∷ []) (length es) ≡ e.0
name_at-last [] e = refl
name_at-last (x ∷ es) e = name_at-last es e

looked_last : (b : Bool) → (if b then meaning.Nothing else meaning.Nothing) ≡ meaning.Nothing
looked_last true = refl
looked_last false = refl

pub looked-push : (es : List Named) (name x : List ℕ) → looked (es ++ (name, meaning.Nothing) ∷ []) x ≡ looked es x
looked-push [] name x = looked_last (bytes_eq x name)
looked-push (e ∷ es) name x = ap (λ (m : Meaning). if bytes_eq x e.0 then e.1 else m) (looked-push es name x)

pub Keeps-push : (es : List Named) (e : Named) → Keeps es (es ++ e ∷ [])
Keeps-push es e = record { longer = omega (arith, length-append es (e ∷ [])); stays = λ n h. name_at-push es e n h }

is_named-push : (es : List Named) (e : Named) (x : List ℕ) → is_named es x ≡ false → bytes_eq x e.0 ≡ false → is_named (es ++ e ∷ []) x ≡ false
is_named-push [] e x h k = ap (λ b. b || false) k
is_named-push (y ∷ es) e x h k =
    let t = neither (bytes_eq x y.0) (is_named es x) h in
    ap (λ b. b || is_named (es ++ e ∷ []) x) t.0 ∙ is_named-push es e x t.1 k

pub AreDistinct-push : (es : List Named) (e : Named) → AreDistinct es → is_named es e.0 ≡ false → AreDistinct (es ++ e ∷ [])
AreDistinct-push [] e h k = (refl, tt)
AreDistinct-push (y ∷ es) e h k =
    let t = neither (bytes_eq e.0 y.0) (is_named es e.0) k in
    (is_named-push es e y.0 h.0 (bytes_eq-symm y.0 e.0 ∙ t.0), AreDistinct-push es e h.1 t.1)

-- the names of a set with their meanings
pub names_of-push : (xs : List (List ℕ)) (ms : List Meaning) (x : List ℕ) (m : Meaning) → length ms ≡ length xs → names_of (xs ++ x ∷ []) (ms ++ m ∷ [])
    ≡ names_of xs ms ++ (x, m) ∷ []
names_of-push [] [] x m h = refl
names_of-push [] (n ∷ ms) x m h = absurd (omega (arith, h))
names_of-push (y ∷ xs) [] x m h = absurd (omega (arith, h))
names_of-push (y ∷ xs) (n ∷ ms) x m h = ap (λ l. (y, n) ∷ l) (names_of-push xs ms x m (omega (arith, h)))

pub length-names_of : (xs : List (List ℕ)) (ms : List Meaning) → length ms ≡ length xs → length (names_of xs ms) ≡ length xs
length-names_of [] ms h = refl
length-names_of (x ∷ xs) [] h = absurd (omega (arith, h))
length-names_of (x ∷ xs) (m ∷ ms) h = ap suc (length-names_of xs ms (omega (arith, h)))

-- whether a name is among those of the set
pub is_named-names_of : (xs : List (List ℕ)) (ms : List Meaning) (x : List ℕ) → length ms ≡ length xs → is_named (names_of xs ms) x ≡ list_any (bytes_eq x) xs
is_named-names_of [] ms x h = refl
is_named-names_of (y ∷ xs) [] x h = absurd (omega (arith, h))
is_named-names_of (y ∷ xs) (m ∷ ms) x h = ap (λ b. bytes_eq x y || b) (is_named-names_of xs ms x (omega (arith, h)))

-- the name of a number is the set's key
pub name_at-key : (xs : List (List ℕ)) (ms : List Meaning) (n : ℕ) (x : List ℕ) → length ms ≡ length xs → slice_get xs n ≡ Some x → name_at (names_of xs ms) n
    ≡ x
name_at-key [] ms n x h e = absurd (cc)
name_at-key (y ∷ xs) [] n x h e = absurd (omega (arith, h))
name_at-key (y ∷ xs) (m ∷ ms) zero x h e = same_Some y x e
name_at-key (y ∷ xs) (m ∷ ms) (suc n) x h e = name_at-key xs ms n x (omega (arith, h)) e

-- the name of a number is that of the table
pub name_at-names_of : (xs : List (List ℕ)) (ms : List Meaning) (n : ℕ) → length ms ≡ length xs → name_at (names_of xs ms) n ≡ get_or xs n []
name_at-names_of [] ms n h = refl
name_at-names_of (x ∷ xs) [] n h = absurd (omega (arith, h))
name_at-names_of (x ∷ xs) (m ∷ ms) zero h = refl
name_at-names_of (x ∷ xs) (m ∷ ms) (suc n) h = name_at-names_of xs ms n (omega (arith, h))

pub AreNames-push : (xs : List (List ℕ)) (ms : List Meaning) (x : List ℕ) (m : Meaning) → AreNames xs ms → list_any (bytes_eq x) xs ≡ false
    → AreNames (xs ++ x ∷ []) (ms ++ m ∷ [])
AreNames-push xs ms x m n h = record {
  each = omega (arith, n.each, length-append xs (x ∷ []), length-append ms (m ∷ []));
  distinct = subst AreDistinct (sym (names_of-push xs ms x m n.each))
      (AreDistinct-push (names_of xs ms) (x, m) n.distinct (is_named-names_of xs ms x n.each ∙ h));
}

or_true : (b : Bool) → (b || true) ≡ true
or_true true = refl
or_true false = refl

-- a name that stands in the table is found there
any-at : (xs : List (List ℕ)) (n : ℕ) (x : List ℕ) → slice_get xs n ≡ Some x → list_any (bytes_eq x) xs ≡ true
any-at [] n x e = absurd (cc)
any-at (y ∷ xs) zero x e = ap (λ b. b || list_any (bytes_eq x) xs) (ap (bytes_eq x) (same_Some y x e) ∙ bytes_eq-refl x)
any-at (y ∷ xs) (suc n) x e = ap (λ b. bytes_eq x y || b) (any-at xs n x e) ∙ or_true (bytes_eq x y)

any-turned : (xs : List (List ℕ)) (x : List ℕ) → list_any (λ y. bytes_eq y x) xs ≡ list_any (bytes_eq x) xs
any-turned [] x = refl
any-turned (y ∷ xs) x = ap (λ b. b || list_any (λ z. bytes_eq z x) xs) (bytes_eq-symm y x) ∙ ap (λ b. bytes_eq x y || b) (any-turned xs x)

-- a table in which a name has the number n: it has the name already, where n is below the length, and else the name is new and goes last
pub record GoesLast (xs new : List (List ℕ)) (x : List ℕ) (n : ℕ) : Type 0 where
  pub lacks : list_any (bytes_eq x) xs ≡ false
  pub added : new ≡ xs ++ x ∷ []
  pub last : n ≡ length xs

module _ (xs new : List (List ℕ)) (x : List ℕ) (n : ℕ) (at : slice_get new n ≡ Some x) (made : new ≡ with_name xs x) where
  with_name-by : (b : Bool) → list_any (bytes_eq x) xs ≡ b → new ≡ (if b then xs else xs ++ x ∷ [])
  with_name-by b e = made ∙ ap (λ c. if c then xs else xs ++ x ∷ []) (any-turned xs x ∙ e)

  pub goes_last : length xs ≤ n → GoesLast xs new x n
  goes_last h = go (list_any (bytes_eq x) xs) refl
    where
      go : (b : Bool) → list_any (bytes_eq x) xs ≡ b → GoesLast xs new x n
      go true e = absurd (let within = slice_get_within xs n x (ap (λ l. slice_get l n) (sym (with_name-by true e)) ∙ at) in omega (arith, h, within))
      go false e =
          let added = with_name-by false e in
          let within = slice_get_within new n x at in
          record { lacks = e; added = added; last = omega (arith, h, within, ap length added, length-append xs (x ∷ [])) }

  pub stays_same : n < length xs → new ≡ xs
  stays_same h = go (list_any (bytes_eq x) xs) refl
    where
      go : (b : Bool) → list_any (bytes_eq x) xs ≡ b → new ≡ xs
      go true e = with_name-by true e
      go false e =
          ⊎_elim
          (λ f. absurd (let clash = sym (any-at xs n x f) ∙ e in cc))
          (λ f. absurd (let last = f.0 in omega (arith, h, last)))
          (push_at xs x x n (ap (λ l. slice_get l n) (sym (with_name-by false e)) ∙ at))

-- the names with their meanings, where the table has the name x at n and each name a meaning
module _ (xs new : List (List ℕ)) (ms more : List Meaning) (x : List ℕ) (n : ℕ) (names : AreNames xs ms) (at : slice_get new n ≡ Some x)
    (made : new ≡ with_name xs x) where
  -- the name was there
  pub names_of-old : n < length ms → more ≡ ms → names_of new more ≡ names_of xs ms
  names_of-old h e = ap₂ names_of (stays_same xs new x n at made (omega (arith, h, names.each))) e

  pub AreNames-old : n < length ms → more ≡ ms → AreNames new more
  AreNames-old h e = subst (AreNames new) (sym e) (subst (λ l. AreNames l ms) (sym (stays_same xs new x n at made (omega (arith, h, names.each)))) names)

  -- it was not
  lacked : length ms ≤ n → GoesLast xs new x n
  lacked h = goes_last xs new x n at made (omega (arith, h, names.each))

  pub names_of-new : length ms ≤ n → more ≡ ms ++ meaning.Nothing ∷ [] → names_of new more ≡ names_of xs ms ++ (x, meaning.Nothing) ∷ []
  names_of-new h e = ap₂ names_of (lacked h).added e ∙ names_of-push xs ms x meaning.Nothing names.each

  pub AreNames-new : length ms ≤ n → more ≡ ms ++ meaning.Nothing ∷ [] → AreNames new more
  AreNames-new h e =
      subst (AreNames new) (sym e)
      (subst (λ l. AreNames l (ms ++ meaning.Nothing ∷ [])) (sym (lacked h).added) (AreNames-push xs ms x meaning.Nothing names (lacked h).lacks))

  -- and either way it has the number n
  pub number-known : AreNames new more → n < length (names_of new more)
  number-known after = let within = slice_get_within new n x at in omega (arith, within, length-names_of new more after.each)

  pub number-named : AreNames new more → name_at (names_of new more) n ≡ x
  number-named after = name_at-key new more n x after.each at

-- a number of a name is one of a meaning
pub within_meanings : (xs : List (List ℕ)) (ms : List Meaning) (now : List Named) (n : ℕ) → names_of xs ms ≡ now → n < length now → length ms ≡ length xs
    → n < length ms
within_meanings xs ms now n e h l = omega (arith, ap length e, h, l, length-names_of xs ms l)

-- a name that gets another meaning
abbrev pub put_at : List Named → ℕ → Meaning → List Named
put_at [] n w = []
put_at (e ∷ es) zero w = (e.0, w) ∷ es
put_at (e ∷ es) (suc n) w = e ∷ put_at es n w

pub names_of-set : (xs : List (List ℕ)) (ms : List Meaning) (n : ℕ) (w : Meaning) → names_of xs (slice_set ms n w) ≡ put_at (names_of xs ms) n w
names_of-set [] ms n w = refl
names_of-set (x ∷ xs) [] n w = refl
names_of-set (x ∷ xs) (m ∷ ms) zero w = refl
names_of-set (x ∷ xs) (m ∷ ms) (suc n) w = ap (λ l. (x, m) ∷ l) (names_of-set xs ms n w)

length-put : (es : List Named) (n : ℕ) (w : Meaning) → length (put_at es n w) ≡ length es
length-put [] n w = refl
length-put (e ∷ es) zero w = refl
length-put (e ∷ es) (suc n) w = ap suc (length-put es n w)

name_at-put : (es : List Named) (n i : ℕ) (w : Meaning) → name_at (put_at es n w) i ≡ name_at es i
name_at-put [] n i w = refl
name_at-put (e ∷ es) zero zero w = refl
name_at-put (e ∷ es) zero (suc i) w = refl
name_at-put (e ∷ es) (suc n) zero w = refl
name_at-put (e ∷ es) (suc n) (suc i) w = name_at-put es n i w

pub Keeps-put : (es : List Named) (n : ℕ) (w : Meaning) → Keeps es (put_at es n w)
Keeps-put es n w = record { longer = omega (arith, length-put es n w); stays = λ i h. name_at-put es n i w }

is_named-put : (es : List Named) (n : ℕ) (w : Meaning) (x : List ℕ) → is_named (put_at es n w) x ≡ is_named es x
is_named-put [] n w x = refl
is_named-put (e ∷ es) zero w x = refl
is_named-put (e ∷ es) (suc n) w x = ap (λ b. bytes_eq x e.0 || b) (is_named-put es n w x)

pub AreDistinct-put : (es : List Named) (n : ℕ) (w : Meaning) → AreDistinct es → AreDistinct (put_at es n w)
AreDistinct-put [] n w h = tt
AreDistinct-put (e ∷ es) zero w h = h
AreDistinct-put (e ∷ es) (suc n) w h = (is_named-put es n w e.0 ∙ h.0, AreDistinct-put es n w h.1)

not_named : (es : List Named) (x : List ℕ) (n : ℕ) → is_named es x ≡ false → n < length es → bytes_eq x (name_at es n) ≡ false
not_named [] x n h l = absurd (omega arith)
not_named (e ∷ es) x zero h l = (neither (bytes_eq x e.0) (is_named es x) h).0
not_named (e ∷ es) x (suc n) h l = not_named es x n (neither (bytes_eq x e.0) (is_named es x) h).1 (omega (arith, l))

put_first : (a : Bool) (w v m : Meaning) → (if a then w else m) ≡ (if a then w else if a then v else m)
put_first true w v m = refl
put_first false w v m = refl

put_by : (a b : Bool) (v w m : Meaning) → (a ≡ true → b ≡ false) → (if a then v else if b then w else m) ≡ (if b then w else if a then v else m)
put_by true b v w m h = sym (ap (λ (c : Bool). if c then w else v) (h refl))
put_by false b v w m h = refl

apart : (es : List Named) (e : Named) (n : ℕ) (y : List ℕ) → is_named es e.0 ≡ false → n < length es → bytes_eq y e.0 ≡ true → bytes_eq y (name_at es n) ≡ false
apart es e n y h l k = subst (λ z. bytes_eq z (name_at es n) ≡ false) (sym (same_text y e.0 (sym k))) (not_named es e.0 n h l)

looked-put : (es : List Named) (n : ℕ) (w : Meaning) (y : List ℕ) → AreDistinct es → n < length es → looked (put_at es n w) y
    ≡ (if bytes_eq y (name_at es n) then w else looked es y)
looked-put [] n w y h l = absurd (omega arith)
looked-put (e ∷ es) zero w y h l = put_first (bytes_eq y e.0) w e.1 (looked es y)
looked-put (e ∷ es) (suc n) w y h l =
    ap (λ (m : Meaning). if bytes_eq y e.0 then e.1 else m) (looked-put es n w y h.1 (omega (arith, l)))
    ∙ put_by (bytes_eq y e.0) (bytes_eq y (name_at es n)) e.1 w (looked es y) (apart es e n y h.0 (omega (arith, l)))

pub Puts-put : (es : List Named) (n : ℕ) (w : Meaning) → AreDistinct es → n < length es → Puts es (name_at es n) w (put_at es n w)
Puts-put es n w h l = record { each = λ y. looked-put es n w y h l }

-- what stands at a number is what its name means
here : (a : Bool) (v m : Meaning) → a ≡ true → (if a then v else m) ≡ v
here true v m h = refl
here false v m h = absurd (cc)

past : (a : Bool) (v m : Meaning) → a ≡ false → (if a then v else m) ≡ m
past true v m h = absurd (cc)
past false v m h = refl

pub looked-at : (xs : List (List ℕ)) (ms : List Meaning) (n : ℕ) (w : Meaning) → length ms ≡ length xs → AreDistinct (names_of xs ms) → slice_get ms n ≡ Some w
    → looked (names_of xs ms) (name_at (names_of xs ms) n) ≡ w
looked-at [] [] n w l h e = absurd (cc)
looked-at [] (m ∷ ms) n w l h e = absurd (omega (arith, l))
looked-at (x ∷ xs) [] n w l h e = absurd (cc)
looked-at (x ∷ xs) (m ∷ ms) zero w l h e = here (bytes_eq x x) m (looked (names_of xs ms) x) (bytes_eq-refl x) ∙ same_Some m w e
looked-at (x ∷ xs) (m ∷ ms) (suc n) w l h e =
    let y = name_at (names_of xs ms) n in
    let within : n < length (names_of xs ms) = omega (arith, l, slice_get_within ms n w e, length-names_of xs ms (omega (arith, l))) in
    past (bytes_eq y x) m (looked (names_of xs ms) y) (bytes_eq-symm y x ∙ not_named (names_of xs ms) x n h.0 within)
    ∙ looked-at xs ms n w (omega (arith, l)) h.1 e
