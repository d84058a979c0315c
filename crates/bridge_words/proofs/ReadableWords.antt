-- Words that are handed to `clap` are of nine kinds, and with any other word there is no form.
use Rattle.std.proofs.Common.{◌≡◌, ◌∙◌, ◌++◌, ◌⊎◌, inl, inr, ℕ, Bool, true, false, List, [], ◌∷◌, Option, Some, None, option_map, codes, refl, sym, ap, subst, take, drop, take-append-drop, ◌+◌, suc, arith, true≢false}
use Rattle.std.specs.Prelude.{◌==◌, ◌||◌, ◌&&◌, not, is_some, if◌then◌else◌}
use Rattle.std.specs.List.{AllByRecursion, list_all, before_first, position_or_len}
use Rattle.std.specs.Str.{bytes_eq}
use Rattle.std.proofs.lemmas.Slice.Eq.{bytes_eq-Decides}
use Rattle.std.proofs.lemmas.Bool.Decides.{Decides-eqb}
use Rattle.bridge_spec.specs.Forms.{Form, verify, translate, show, trial, number_up_to, greatest_trial, is_file, Checking, check_after, check_form, checking, Running, running, run_after, verify_form, translate_form, files_form, decode_form, trial_form, form_by, form_after}
use Rattle.bridge_words.specs.Readable.{is_readable, are_readable}
use Rattle.bridge_words.proofs.WordKinds.{Kind, file, budget, named, fast, share, fast_valued, share_valued, other}

-- what is not true is false
not-true : {b : Bool} → not b ≡ true → b ≡ false
not-true {b} h = go b h
  where
    go : (b : Bool) → not b ≡ true → b ≡ false
    go true h = sym h
    go false h = refl

-- both sides of a true conjunction
and-both : (a b : Bool) → (a && b) ≡ true → (a ≡ true) × (b ≡ true)
and-both true b e = (refl, e)
and-both false b e = absurd (true≢false (sym e))

and_true : (b : Bool) → (b && true) ≡ b
and_true true = refl
and_true false = refl

and_false : (b : Bool) → (b && false) ≡ false
and_false true = refl
and_false false = refl

-- what is not no dash is one
not-false : {b : ℕ} → not (b == 45) ≡ false → b ≡ 45
not-false {b} h = go (b == 45) refl h
  where
    go : (x : Bool) → (b == 45) ≡ x → not x ≡ false → b ≡ 45
    go true e h = (Decides-eqb b 45).0 e
    go false e h = absurd (true≢false h)

-- what `clap` calls the name of a long option
abbrev name_of : List ℕ → List ℕ
name_of text = before_first (λ x. x == 61) text

-- ---- words that are read

-- a name ends before `=`
name_of-sign : (x : ℕ) (xs : List ℕ) → (x == 61) ≡ true → name_of (x ∷ xs) ≡ []
name_of-sign x xs e = simp e refl

-- .. and goes on with any other byte
name_of-other : (x : ℕ) (xs : List ℕ) → (x == 61) ≡ false → name_of (x ∷ xs) ≡ x ∷ name_of xs
name_of-other x xs e =
    let one : (n : ℕ) → 1 + n ≡ suc n = λ n. omega arith in
    let left : name_of (x ∷ xs) ≡ take (1 + position_or_len (λ y. y == 61) xs) (x ∷ xs) = simp e refl in
    left ∙ ap (λ k. take k (x ∷ xs)) (one (position_or_len (λ y. y == 61) xs))

-- a text is its name, or its name with `=` and more
text-name_of : (text : List ℕ) → (text ≡ name_of text) ⊎ ((rest : List ℕ) × (text ≡ name_of text ++ 61 ∷ rest))
text-name_of [] = inl refl
text-name_of (x ∷ xs) = go (x == 61) refl (text-name_of xs)
  where
    go : (b : Bool) → (x == 61) ≡ b → (xs ≡ name_of xs) ⊎ ((rest : List ℕ) × (xs ≡ name_of xs ++ 61 ∷ rest)) → ((x ∷ xs) ≡ name_of (x ∷ xs))
        ⊎ ((rest : List ℕ) × ((x ∷ xs) ≡ name_of (x ∷ xs) ++ 61 ∷ rest))
    go true e more = inr (xs, ap (λ y. y ∷ xs) ((Decides-eqb x 61).0 e) ∙ sym (ap (λ name. name ++ 61 ∷ xs) (name_of-sign x xs e)))
    go false e (inl same) = inl (ap (λ ys. x ∷ ys) same ∙ sym (name_of-other x xs e))
    go false e (inr p) = inr (p.0, ap (λ ys. x ∷ ys) p.1 ∙ sym (ap (λ name. name ++ 61 ∷ p.0) (name_of-other x xs e)))

-- two dashes and more
dashes-Kind : (c : ℕ) (cs : List ℕ) → Kind (45 ∷ 45 ∷ c ∷ cs)
dashes-Kind c cs = go (bytes_eq (codes "budget") (name_of (c ∷ cs))) refl (bytes_eq (codes "fast") (name_of (c ∷ cs))) refl
    (bytes_eq (codes "share") (name_of (c ∷ cs))) refl
  where
    -- an option by its name, alone or with `=` and more
    of_name : (name : List ℕ) → Kind (45 ∷ 45 ∷ name) → ((rest : List ℕ) → Kind (45 ∷ 45 ∷ name ++ 61 ∷ rest)) → name ≡ name_of (c ∷ cs)
        → ((c ∷ cs) ≡ name_of (c ∷ cs)) ⊎ ((rest : List ℕ) × ((c ∷ cs) ≡ name_of (c ∷ cs) ++ 61 ∷ rest)) → Kind (45 ∷ 45 ∷ c ∷ cs)
    of_name name alone more same (inl all) = subst (λ text. Kind (45 ∷ 45 ∷ text)) (same ∙ sym all) alone
    of_name name alone more same (inr p) = subst (λ text. Kind (45 ∷ 45 ∷ text)) (ap (λ name. name ++ 61 ∷ p.0) same ∙ sym p.1) (more p.0)

    not_named : bytes_eq (codes "budget") (name_of (c ∷ cs)) ≡ false → (b : Bool) → bytes_eq (take 9 (45 ∷ 45 ∷ c ∷ cs)) (codes "--budget=") ≡ b
        → bytes_eq (take 9 (45 ∷ 45 ∷ c ∷ cs)) (codes "--budget=") ≡ false
    not_named e false m = m
    not_named e true m =
        let front = (bytes_eq-Decides (take 9 (45 ∷ 45 ∷ c ∷ cs)) (codes "--budget=")).0 m in
        let all : 45 ∷ 45 ∷ c ∷ cs ≡ codes "--budget=" ++ drop 9 (45 ∷ 45 ∷ c ∷ cs) =
        sym (take-append-drop 9 (45 ∷ 45 ∷ c ∷ cs)) ∙ ap (λ front. front ++ drop 9 (45 ∷ 45 ∷ c ∷ cs)) front in
        let bad : true ≡ false = ap (λ word. bytes_eq (codes "budget") (name_of (drop 2 word))) (sym all) ∙ e in
        absurd (true≢false bad)

    -- a word whose name is another is not that option
    not_option : (name : List ℕ) → bytes_eq name (name_of (c ∷ cs)) ≡ false → name_of name ≡ name → (b : Bool) → bytes_eq (45 ∷ 45 ∷ c ∷ cs) (45 ∷ 45 ∷ name)
        ≡ b → bytes_eq (45 ∷ 45 ∷ c ∷ cs) (45 ∷ 45 ∷ name) ≡ false
    not_option name e own false o = o
    not_option name e own true o =
        let all = (bytes_eq-Decides (45 ∷ 45 ∷ c ∷ cs) (45 ∷ 45 ∷ name)).0 o in
        let bad : true ≡ false = sym ((bytes_eq-Decides name name).1 refl) ∙ ap (λ text. bytes_eq name text) (sym own) ∙ ap
        (λ word. bytes_eq name (name_of (drop 2 word))) (sym all) ∙ e in
        absurd (true≢false bad)

    go : (b : Bool) → bytes_eq (codes "budget") (name_of (c ∷ cs)) ≡ b → (f : Bool) → bytes_eq (codes "fast") (name_of (c ∷ cs)) ≡ f → (s : Bool)
        → bytes_eq (codes "share") (name_of (c ∷ cs)) ≡ s → Kind (45 ∷ 45 ∷ c ∷ cs)
    go true e f g s k = of_name (codes "budget") budget (λ rest. named rest) ((bytes_eq-Decides (codes "budget") (name_of (c ∷ cs))).0 e)
        (text-name_of (c ∷ cs))
    go false e true g s k = of_name (codes "fast") fast (λ rest. fast_valued rest) ((bytes_eq-Decides (codes "fast") (name_of (c ∷ cs))).0 g)
        (text-name_of (c ∷ cs))
    go false e false g true k = of_name (codes "share") share (λ rest. share_valued rest) ((bytes_eq-Decides (codes "share") (name_of (c ∷ cs))).0 k)
        (text-name_of (c ∷ cs))
    go false e false g false k = other c cs (record {
      budget_name = e;
      fast_name = g;
      share_name = k;
      named = not_named e (bytes_eq (take 9 (45 ∷ 45 ∷ c ∷ cs)) (codes "--budget=")) refl;
      budget = not_option (codes "budget") e refl (bytes_eq (45 ∷ 45 ∷ c ∷ cs) (codes "--budget")) refl;
      fast = not_option (codes "fast") g refl (bytes_eq (45 ∷ 45 ∷ c ∷ cs) (codes "--fast")) refl;
      share = not_option (codes "share") k refl (bytes_eq (45 ∷ 45 ∷ c ∷ cs) (codes "--share")) refl;
    })

-- a word that is handed to `clap` is of one of the kinds
is_readable-Kind : (word : List ℕ) → is_readable word ≡ true → Kind word
is_readable-Kind [] h = absurd (true≢false (sym h))
is_readable-Kind (b ∷ []) h = file b [] (not-true h)
is_readable-Kind (b ∷ c ∷ []) h = file b (c ∷ []) (not-true h)
is_readable-Kind (b ∷ c ∷ d ∷ ds) h = go (b == 45) refl (c == 45) refl h
  where
    go : (x : Bool) → (b == 45) ≡ x → (y : Bool) → (c == 45) ≡ y → (not x || y) ≡ true → Kind (b ∷ c ∷ d ∷ ds)
    go false e y f h = file b (c ∷ d ∷ ds) e
    go true e true f h = subst (λ p. Kind (p ∷ c ∷ d ∷ ds)) (sym ((Decides-eqb b 45).0 e))
        (subst (λ q. Kind (45 ∷ q ∷ d ∷ ds)) (sym ((Decides-eqb c 45).0 f)) (dashes-Kind d ds))
    go true e false f h = absurd (true≢false (sym h))

-- .. and so is each of some words
pub are_readable-Kinds : (words : List (List ℕ)) → are_readable words ≡ true → AllByRecursion Kind words
are_readable-Kinds [] h = tt
are_readable-Kinds (word ∷ words) h = let parts = and-both (is_readable word) (are_readable words) h in
    (is_readable-Kind word parts.0, are_readable-Kinds words parts.1)

-- ---- words that are not

-- an empty word, `-`, `--`, and a word that begins with one dash and goes on
data Odd : List ℕ → Type 0 where
  empty : Odd []
  dash : Odd (45 ∷ [])
  dashes : Odd (45 ∷ 45 ∷ [])
  short : (c : ℕ) (cs : List ℕ) → (c == 45) ≡ false → Odd (45 ∷ c ∷ cs)

-- a word that is not handed to `clap` is one of these
unreadable-Odd : (word : List ℕ) → is_readable word ≡ false → Odd word
unreadable-Odd [] h = empty
unreadable-Odd (b ∷ []) h = subst (λ p. Odd (p ∷ [])) (sym (not-false h)) dash
unreadable-Odd (b ∷ c ∷ []) h = subst (λ p. Odd (p ∷ c ∷ [])) (sym (not-false h)) (go (c == 45) refl)
  where
    go : (x : Bool) → (c == 45) ≡ x → Odd (45 ∷ c ∷ [])
    go true e = subst (λ p. Odd (45 ∷ p ∷ [])) (sym ((Decides-eqb c 45).0 e)) dashes
    go false e = short c [] e
unreadable-Odd (b ∷ c ∷ d ∷ ds) h = go (b == 45) refl (c == 45) refl h
  where
    go : (x : Bool) → (b == 45) ≡ x → (y : Bool) → (c == 45) ≡ y → (not x || y) ≡ false → Odd (b ∷ c ∷ d ∷ ds)
    go true e false f h = subst (λ p. Odd (p ∷ c ∷ d ∷ ds)) (sym ((Decides-eqb b 45).0 e)) (short c (d ∷ ds) f)
    go true e true f h = absurd (true≢false h)
    go false e y f h = absurd (true≢false h)

-- such a word is no file, no option, no number and no name
record IsNothing (word : List ℕ) : Type 0 where
  file : is_file word ≡ false
  alone : bytes_eq word (codes "--budget") ≡ false
  share : bytes_eq word (codes "--share") ≡ false
  named : bytes_eq (take 9 word) (codes "--budget=") ≡ false
  fast : bytes_eq word (codes "--fast") ≡ false
  number : (most : ℕ) → number_up_to most word ≡ None
  asks : (words : List (List ℕ)) → form_by word words ≡ None

Odd-IsNothing : (word : List ℕ) → Odd word → IsNothing word
Odd-IsNothing word empty = record { file = refl; alone = refl; share = refl; named = refl; fast = refl; number = λ most. refl; asks = λ words. refl }
Odd-IsNothing word dash = record { file = refl; alone = refl; share = refl; named = refl; fast = refl; number = λ most. refl; asks = λ words. refl }
Odd-IsNothing word dashes = record { file = refl; alone = refl; share = refl; named = refl; fast = refl; number = λ most. refl; asks = λ words. refl }
Odd-IsNothing word (short c cs e) = record
    { file = refl; alone = simp e refl; share = simp e refl; named = simp e refl; fast = simp e refl; number = λ most. refl; asks = λ words. refl }

unreadable-IsNothing : (word : List ℕ) → is_readable word ≡ false → IsNothing word
unreadable-IsNothing word h = Odd-IsNothing word (unreadable-Odd word h)

-- whichever way it goes, there is none
neither : {X : Type 0} (b : Bool) (one two : Option X) → one ≡ None → two ≡ None → (if b then one else two) ≡ None
neither true one two e f = e
neither false one two e f = f

-- with such a word among those after `check` there is no form
check_after-unreadable : (g : Checking) (b : Bool) (words : List (List ℕ)) → are_readable words ≡ false → check_after g b words ≡ None
check_after-unreadable g b [] h = absurd (true≢false h)
check_after-unreadable g b (w ∷ ws) h = go (is_readable w) refl h b (λ g b. check_after-unreadable g b ws)
  where
    go : (x : Bool) → is_readable w ≡ x → (x && are_readable ws) ≡ false → (b : Bool)
        → ((g : Checking) (b : Bool) → are_readable ws ≡ false → check_after g b ws ≡ None) → check_after g b (w ∷ ws) ≡ None
    go false e h true more = rw (unreadable-IsNothing w e).file refl
    go false e h false more = let no = unreadable-IsNothing w e in rw (no.fast, no.alone, no.named, no.file) refl
    go true e h true more = neither (is_file w) _ None (more (record g { budget = Some w }) false h) refl
    go true e h false more =
        neither (bytes_eq w (codes "--fast")) _ _ (neither g.fast None _ refl (more (record g { fast = true }) false h))
        (neither (bytes_eq w (codes "--budget")) _ _ (neither (is_some g.budget) None _ refl (more g true h))
        (neither (bytes_eq (take 9 w) (codes "--budget=")) _ _ (neither (is_some g.budget) None _ refl (more (record g { budget = Some (drop 9 w) }) false h))
        (neither (is_file w) _ None (neither (is_some g.file) None _ refl (more (record g { file = Some w }) false h)) refl)))

check_form-unreadable : (words : List (List ℕ)) → are_readable words ≡ false → check_form words ≡ None
check_form-unreadable words h = check_after-unreadable (checking None None false) false words h

-- .. and neither is there after `verify` or `translate`
run_after-unreadable : (z : Bool) (form : Running → Form) (g : Running) (words : List (List ℕ)) → are_readable words ≡ false → run_after z form g words ≡ None
run_after-unreadable z form g [] h = absurd (true≢false h)
run_after-unreadable z form g (w ∷ ws) h = go (is_readable w) refl h (λ g. run_after-unreadable z form g ws)
  where
    go : (x : Bool) → is_readable w ≡ x → (x && are_readable ws) ≡ false → ((g : Running) → are_readable ws ≡ false → run_after z form g ws ≡ None)
        → run_after z form g (w ∷ ws) ≡ None
    go false e h more = let no = unreadable-IsNothing w e in rw (no.share, no.fast, and_false z, no.file) refl
    go true e h more =
        neither (bytes_eq w (codes "--share")) _ _ (neither g.share None _ refl (more (record g { share = true }) h))
        (neither (z && bytes_eq w (codes "--fast")) _ _ (neither g.fast None _ refl (more (record g { fast = true }) h))
        (neither (is_file w) _ None (more (record g { files = g.files ++ w ∷ [] }) h) refl))

verify_form-unreadable : (words : List (List ℕ)) → are_readable words ≡ false → verify_form words ≡ None
verify_form-unreadable words h = run_after-unreadable true (λ g. verify g.share g.fast g.files) (running [] false false) words h

translate_form-unreadable : (words : List (List ℕ)) → are_readable words ≡ false → translate_form words ≡ None
translate_form-unreadable words h = run_after-unreadable false (λ g. translate g.share g.files) (running [] false false) words h

-- such a word is among no files
are_files-unreadable : (words : List (List ℕ)) → are_readable words ≡ false → list_all is_file words ≡ false
are_files-unreadable [] h = h
are_files-unreadable (word ∷ words) h = go (is_readable word) refl h (are_files-unreadable words)
  where
    go : (x : Bool) → is_readable word ≡ x → (x && are_readable words) ≡ false → (are_readable words ≡ false → list_all is_file words ≡ false)
        → list_all is_file (word ∷ words) ≡ false
    go false e h more = rw (unreadable-IsNothing word e).file refl
    go true e h more = rw (more h) (and_false (is_file word))

files_form-unreadable : (form : List (List ℕ) → Form) (words : List (List ℕ)) → are_readable words ≡ false → files_form form words ≡ None
files_form-unreadable form [] h = refl
files_form-unreadable form (word ∷ words) h = rw (are_files-unreadable (word ∷ words) h) refl

decode_form-unreadable : (words : List (List ℕ)) → are_readable words ≡ false → decode_form words ≡ None
decode_form-unreadable [] h = refl
decode_form-unreadable (a ∷ []) h = rw (unreadable-IsNothing a (sym (and_true (is_readable a)) ∙ h)).file refl
decode_form-unreadable (a ∷ b ∷ words) h = refl

trial_form-unreadable : (words : List (List ℕ)) → are_readable words ≡ false → trial_form words ≡ None
trial_form-unreadable [] h = refl
trial_form-unreadable (a ∷ []) h = ap (option_map trial) ((unreadable-IsNothing a (sym (and_true (is_readable a)) ∙ h)).number greatest_trial)
trial_form-unreadable (a ∷ b ∷ words) h = refl

-- whichever name the first word is, there is no form
none_of : (v t c s d r a : Bool) (verifies translates checks shows decodes tries writes : Option Form) → verifies ≡ None → translates ≡ None → checks ≡ None
    → shows ≡ None → decodes ≡ None → tries ≡ None → writes ≡ None
    → (if v then verifies else if t then translates else if c then checks else if s then shows else if d then decodes else if r then tries else if a then writes
    else None) ≡ None
none_of true t c s d r a f1 f2 f3 f4 f5 f6 f7 h1 h2 h3 h4 h5 h6 h7 = h1
none_of false true c s d r a f1 f2 f3 f4 f5 f6 f7 h1 h2 h3 h4 h5 h6 h7 = h2
none_of false false true s d r a f1 f2 f3 f4 f5 f6 f7 h1 h2 h3 h4 h5 h6 h7 = h3
none_of false false false true d r a f1 f2 f3 f4 f5 f6 f7 h1 h2 h3 h4 h5 h6 h7 = h4
none_of false false false false true r a f1 f2 f3 f4 f5 f6 f7 h1 h2 h3 h4 h5 h6 h7 = h5
none_of false false false false false true a f1 f2 f3 f4 f5 f6 f7 h1 h2 h3 h4 h5 h6 h7 = h6
none_of false false false false false false true f1 f2 f3 f4 f5 f6 f7 h1 h2 h3 h4 h5 h6 h7 = h7
none_of false false false false false false false f1 f2 f3 f4 f5 f6 f7 h1 h2 h3 h4 h5 h6 h7 = refl

-- words of which one is not handed to `clap` have no form
pub form_after-unreadable : (words : List (List ℕ)) → are_readable words ≡ false → form_after words ≡ None
form_after-unreadable [] h = refl
form_after-unreadable (word ∷ words) h = go (is_readable word) refl h
  where
    go : (x : Bool) → is_readable word ≡ x → (x && are_readable words) ≡ false → form_by word words ≡ None
    go false e h = (unreadable-IsNothing word e).asks words
    go true e h =
        none_of (bytes_eq word (codes "verify")) (bytes_eq word (codes "translate")) (bytes_eq word (codes "check")) (bytes_eq word (codes "show"))
        (bytes_eq word (codes "decode")) (bytes_eq word (codes "trial")) (bytes_eq word (codes "article"))
        (verify_form words) (translate_form words) (check_form words) (files_form show words) (decode_form words) (trial_form words)
        (files_form Form.article words)
        (verify_form-unreadable words h) (translate_form-unreadable words h) (check_form-unreadable words h) (files_form-unreadable show words h)
        (decode_form-unreadable words h) (trial_form-unreadable words h) (files_form-unreadable Form.article words h)
