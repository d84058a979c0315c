-- The text of a module reads as the module.
use Rattle.std.proofs.Common.{◌≡◌, ℕ, zero, suc, ◌+◌, ◌-◌, ◌<◌, ◌≤◌, ◌^◌, refl, sym, ap, ◌∙◌, append_assoc, Bool, true, false, not, List, [], ◌∷◌, ◌++◌, length, codes, Some, None, arith}
use Rattle.std.specs.Prelude.{IsFalse, decimal, position}
use Rattle.std.specs.Str.{bytes_eq}
use Rattle.std.proofs.lemmas.Slice.Eq.{bytes_eq-Decides}
use Rattle.std.proofs.lemmas.Grind.{common_steps}
use Rattle.std.proofs.lemmas.Fmt.{decimal_injective}
use Rattle.std.proofs.lemmas.Bool.{false_from_ne_true, not-false}
use Rattle.lp_spec.specs.Trees.{Tree, SortType, SortKind, Var, Sym, App, Lam, Pi, depth, loose}
use Rattle.lp_spec.specs.Modules.{Declaration, signature, symbol_name}
use Rattle.lp_spec.specs.ModuleOrder.{has_kind, symbols}
use Rattle.lp_spec.specs.Text.{is_binder, is_word, enclosed, binder_name, tree_text}
use Rattle.lp_spec.specs.Tokens.{Name, TypeWord, LeftParen, RightParen, Colon, Arrow, FatArrow, Placed, at, word_token, before, tokens_from}
use Rattle.lp_spec.specs.Reading.{Scope, variable_of, symbol_of, Atom, variable, symbol, sort, enclosed as enclosed_atom, Arguments, none, argument, Application, application, Term, product, abstraction, plain}
use Rattle.lp_spec.specs.TextLaws.{IsWordText, IsPlainName}
use Rattle.dk_laws.specs.ShortenedTrees.{expanded}
use Rattle.dk_laws.specs.WrittenTokens.{IsOpener, put, Says, word_at, paren_at, space_at, close_at, colon_at, arrow_at, fat_arrow_at, binder_name-IsWordText}

-- the binders of a written tree, each by its number
abbrev pub binders : ℕ → Scope
binders zero = []
binders (suc d) = binder_name d ∷ binders d

module _ (m ds : List Declaration) where
  -- the symbol's name is plain, and names the symbol
  pub record IsNamed (s : ℕ) : Type 0 where
    pub plain : IsPlainName (symbol_name m s)
    pub found : symbol_of ds (symbol_name m s) ≡ Some s

  -- every symbol of the declarations is
  pub record AreNamed : Type 0 where
    pub each : (s : ℕ) → s < length (signature ++ ds) → IsNamed s

  -- a tree under d binders that can be written and read
  pub record IsWritable (d : ℕ) (t : Tree) : Type 0 where
    pub bound : loose t ≤ d
    pub kindless : IsFalse (has_kind t)
    pub known : symbols t ≤ length (signature ++ ds)
    pub few : d + depth t ≤ 2 ^ 32

  writable_function : {d : ℕ} (f x : Tree) → IsWritable d (App f x) → IsWritable d f
  writable_function f x w = record
      { bound = omega (arith, w.bound); kindless = grind (arith, w.kindless); known = omega (arith, w.known); few = omega (arith, w.few) }

  writable_argument : {d : ℕ} (f x : Tree) → IsWritable d (App f x) → IsWritable d x
  writable_argument f x w = record
      { bound = omega (arith, w.bound); kindless = grind (arith, w.kindless); known = omega (arith, w.known); few = omega (arith, w.few) }

  writable_domain : {d : ℕ} (a b : Tree) → IsWritable d (Pi a b) → IsWritable d a
  writable_domain a b w = record
      { bound = omega (arith, w.bound); kindless = grind (arith, w.kindless); known = omega (arith, w.known); few = omega (arith, w.few) }

  writable_body : {d : ℕ} (a b : Tree) → IsWritable d (Pi a b) → IsWritable (suc d) b
  writable_body a b w = record
      { bound = omega (arith, w.bound); kindless = grind (arith, w.kindless); known = omega (arith, w.known); few = omega (arith, w.few) }

  writable_product : {d : ℕ} (a b : Tree) → IsWritable d (Lam a b) → IsWritable d (Pi a b)
  writable_product a b w = record { bound = w.bound; kindless = w.kindless; known = w.known; few = w.few }

  -- what is read of a text at some place
  pub found_as : {K L : List Placed → List Placed → Type 0} {text : List ℕ} → ((tokens rest : List Placed) → K tokens rest → L tokens rest) → Says K text
      → Says L text
  found_as f h p rest stop = let r = h p rest stop in record
      { front = r.front; place = r.place; is = r.is; holds = λ tokens. f (r.front tokens) tokens (r.holds tokens) }

  -- a tree's text is read as a term, and as an application or an atom where it is none with binders, or a single word
  pub record IsSaid (d : ℕ) (t : Tree) : Type 0 where
    pub opener : IsOpener (tree_text m d t)
    pub term : Says (λ tokens rest. Term ds (binders d) tokens rest (expanded ds t)) (tree_text m d t)
    pub as_application : is_binder t ≡ false → Says (λ tokens rest. Application ds (binders d) tokens rest (expanded ds t)) (tree_text m d t)
    pub as_atom : is_word t ≡ true → Says (λ tokens rest. Atom ds (binders d) tokens rest (expanded ds t)) (tree_text m d t)

  word_opener : {word : List ℕ} → IsWordText word → IsOpener word
  word_opener w = record { first = w.first; more = w.more; is = w.is; other = grind (arith, common_steps, w.letter) }

  opener_append : (text more : List ℕ) → IsOpener text → IsOpener (text ++ more)
  opener_append text more o = record { first = o.first; more = o.more ++ more; is = ap (λ v. v ++ more) o.is; other = o.other }

  arguments_append : {scope : Scope} {tokens more rest : List Placed} {f g x : Tree} → Arguments ds scope f tokens more g → Atom ds scope more rest x
      → Arguments ds scope f tokens rest (App g x)
  arguments_append none x = argument x none
  arguments_append (argument a args) x = argument a (arguments_append args x)

  application_append : {scope : Scope} {tokens more rest : List Placed} {f x : Tree} → Application ds scope tokens more f → Atom ds scope more rest x
      → Application ds scope tokens rest (App f x)
  application_append (application a args) x = application a (arguments_append args x)

  -- a text in parentheses
  enclosed_opener : (wanted : Bool) (text : List ℕ) → IsOpener text → IsOpener (enclosed wanted text)
  enclosed_opener true text o = record { first = 40; more = text ++ codes ")"; is = refl; other = refl }
  enclosed_opener false text o = o

  in_parentheses : {scope : Scope} {t : Tree} (text : List ℕ) → IsOpener text → Says (λ tokens rest. Term ds scope tokens rest t) text
      → Says (λ tokens rest. Atom ds scope tokens rest t) (codes "(" ++ text ++ codes ")")
  in_parentheses text o h p rest stop =
      let r = h (p + 1) (41 ∷ rest) refl in
      record {
        front = λ tokens. at p LeftParen ∷ r.front (at r.place RightParen ∷ tokens);
        place = r.place + 1;
        is = ap (λ v. tokens_from p (40 ∷ v)) (append_assoc text (41 ∷ []) rest)
            ∙ paren_at p (text ++ 41 ∷ rest) (opener_append text (41 ∷ rest) o)
            ∙ ap (λ s. before (at p LeftParen ∷ []) s) r.is
            ∙ ap (λ s. put (λ tokens. at p LeftParen ∷ r.front tokens) s) (close_at r.place rest);
        holds = λ tokens. enclosed_atom (r.holds (at r.place RightParen ∷ tokens));
      }

  enclosed_says : {scope : Scope} {t : Tree} (wanted : Bool) (text : List ℕ) → IsOpener text
      → (wanted ≡ false → Says (λ tokens rest. Atom ds scope tokens rest t) text) → Says (λ tokens rest. Term ds scope tokens rest t) text
      → Says (λ tokens rest. Atom ds scope tokens rest t) (enclosed wanted text)
  enclosed_says true text o h term = in_parentheses text o term
  enclosed_says false text o h term = h refl

  domain_says : {scope : Scope} {t : Tree} (wanted : Bool) (text : List ℕ) → IsOpener text
      → (wanted ≡ false → Says (λ tokens rest. Application ds scope tokens rest t) text) → Says (λ tokens rest. Term ds scope tokens rest t) text
      → Says (λ tokens rest. Application ds scope tokens rest t) (enclosed wanted text)
  domain_says true text o h term = found_as (λ tokens rest a. application a none) (in_parentheses text o term)
  domain_says false text o h term = h refl

  -- a tree of one word
  word_said : {d : ℕ} {t : Tree} → IsOpener (tree_text m d t) → Says (λ tokens rest. Atom ds (binders d) tokens rest (expanded ds t)) (tree_text m d t)
      → IsSaid d t
  word_said o h = record {
    opener = o;
    term = found_as (λ tokens rest a. plain (application a none)) h;
    as_application = λ e. found_as (λ tokens rest a. application a none) h;
    as_atom = λ e. h;
  }

  name_says : {scope : Scope} {t : Tree} (name : List ℕ) → IsWordText name → word_token name ≡ Name name
      → ((p : ℕ) (rest : List Placed) → Atom ds scope (at p (Name name) ∷ rest) rest t) → Says (λ tokens rest. Atom ds scope tokens rest t) name
  name_says name w e h p rest stop =
      let r = word_at p name rest w stop in
      record {
        front = λ tokens. at p (Name name) ∷ tokens;
        place = r.place;
        is = r.is ∙ ap (λ token. before (at p token ∷ []) (tokens_from r.place rest)) e;
        holds = h p;
      }

  type_says : {scope : Scope} → Says (λ tokens rest. Atom ds scope tokens rest SortType) (codes "Type")
  type_says p rest stop =
      let r = word_at p (codes "Type") rest (record { first = 84; more = codes "ype"; is = refl; letter = refl; bytes = refl }) stop in
      record { front = λ tokens. at p TypeWord ∷ tokens; place = r.place; is = r.is; holds = λ tokens. sort }

  -- the names of binders
  binder_token : (d : ℕ) → word_token (binder_name d) ≡ Name (binder_name d)
  binder_token d = refl

  same_bytes : (name : List ℕ) → bytes_eq name name ≡ true
  same_bytes name = (bytes_eq-Decides name name).1 refl

  other_bytes : (a b : List ℕ) → (a ≡ b → ⊥) → bytes_eq a b ≡ false
  other_bytes a b h = false_from_ne_true (bytes_eq a b) (λ e. h ((bytes_eq-Decides a b).0 e))

  tail_is : (a b : List ℕ) → ◌≡◌ {A = List ℕ} (118 ∷ a) (118 ∷ b) → a ≡ b
  tail_is a b e = cc

  binder_apart : (d e : ℕ) → d < 2 ^ 64 → e < 2 ^ 64 → (d ≡ e → ⊥) → binder_name d ≡ binder_name e → ⊥
  binder_apart d e hd he h same = h (decimal_injective d e hd he (tail_is (decimal d) (decimal e) same))

  position_here : {X : Type 0} (p : X → Bool) (x : X) (xs : List X) → p x ≡ true → position p (x ∷ xs) ≡ Some 0
  position_here p x xs e = grind (arith, common_steps)

  position_later : {X : Type 0} (p : X → Bool) (x : X) (xs : List X) (n : ℕ) → p x ≡ false → position p xs ≡ Some n → position p (x ∷ xs) ≡ Some (suc n)
  position_later p x xs n e h = grind (arith, common_steps)

  position_none : {X : Type 0} (p : X → Bool) (x : X) (xs : List X) → p x ≡ false → position p xs ≡ None → position p (x ∷ xs) ≡ None
  position_none p x xs e h = grind (arith, common_steps)

  -- a binder's name names it
  binder_found : (d n : ℕ) → n < d → d ≤ 2 ^ 32 → variable_of (binders d) (binder_name (d - suc n)) ≡ Some n
  binder_found zero n h small = absurd (omega arith)
  binder_found (suc d) zero h small =
      let e : suc d - 1 ≡ d = omega arith in
      ap (λ k. variable_of (binders (suc d)) (binder_name k)) e
      ∙ position_here (λ b. bytes_eq b (binder_name d)) (binder_name d) (binders d) (same_bytes (binder_name d))
  binder_found (suc d) (suc n) h small =
      let e : suc d - suc (suc n) ≡ d - suc n = omega arith in
      let apart : d ≡ d - suc n → ⊥ = λ e. omega (arith, e) in
      let big : d < 2 ^ 64 = omega arith in
      let below : d - suc n < 2 ^ 64 = omega arith in
      ap (λ k. variable_of (binders (suc d)) (binder_name k)) e
      ∙ position_later (λ b. bytes_eq b (binder_name (d - suc n))) (binder_name d) (binders d) n
      (other_bytes (binder_name d) (binder_name (d - suc n)) (binder_apart d (d - suc n) big below apart))
      (binder_found d n (omega arith) (omega arith))

  -- and a plain name names none
  binder_missed : (d : ℕ) (name : List ℕ) → IsPlainName name → variable_of (binders d) name ≡ None
  binder_missed zero name h = refl
  binder_missed (suc d) name h =
      position_none (λ b. bytes_eq b name) (binder_name d) (binders d) (other_bytes (binder_name d) name (λ e. h.no_binder d (sym e))) (binder_missed d name h)

  variable_said : (d n : ℕ) → n < d → d ≤ 2 ^ 32 → IsSaid d (Var n)
  variable_said d n h small =
      let w = binder_name-IsWordText (d - suc n) in
      word_said {d = d} {t = Var n} (word_opener w) (name_says (binder_name (d - suc n)) w refl (λ p rest. variable (binder_found d n h small)))

  symbol_said : (d s : ℕ) → IsNamed s → IsSaid d (Sym s)
  symbol_said d s h = word_said {d = d} {t = Sym s} (word_opener h.plain.word)
      (name_says (symbol_name m s) h.plain.word h.plain.no_key (λ p rest. symbol (binder_missed d (symbol_name m s) h.plain) h.found))

  -- an application
  apart_by_space : (f x rest : List ℕ) → f ++ codes " " ++ x ++ rest ≡ f ++ (32 ∷ (x ++ rest))
  apart_by_space f x rest = simp append_assoc

  application_says : {scope : Scope} {f x : Tree} (one two : List ℕ) → Says (λ tokens rest. Application ds scope tokens rest f) one
      → Says (λ tokens rest. Atom ds scope tokens rest x) two → Says (λ tokens rest. Application ds scope tokens rest (App f x)) (one ++ codes " " ++ two)
  application_says one two h k p rest stop =
      let r = h p (32 ∷ (two ++ rest)) refl in
      let s = k (r.place + 1) rest stop in
      record {
        front = λ tokens. r.front (s.front tokens);
        place = s.place;
        is = ap (tokens_from p) (apart_by_space one two rest)
            ∙ r.is
            ∙ ap (put r.front) (space_at r.place (two ++ rest))
            ∙ ap (put r.front) s.is;
        holds = λ tokens. application_append (r.holds (s.front tokens)) (s.holds tokens);
      }

  -- a binder
  binder_parts : (name domain sign body rest : List ℕ)
      → name ++ codes " : " ++ domain ++ sign ++ body ++ rest ≡ name ++ (32 ∷ 58 ∷ 32 ∷ (domain ++ (sign ++ (body ++ rest))))
  binder_parts name domain sign body rest = simp append_assoc

  product_says : (d : ℕ) {a b : Tree} (one two : List ℕ) → Says (λ tokens rest. Application ds (binders d) tokens rest a) one
      → Says (λ tokens rest. Term ds (binders (suc d)) tokens rest b) two
      → Says (λ tokens rest. Term ds (binders d) tokens rest (Pi a b)) (binder_name d ++ codes " : " ++ one ++ codes " -> " ++ two)
  product_says d one two h k p rest stop =
      let w = word_at p (binder_name d) (32 ∷ 58 ∷ 32 ∷ (one ++ (codes " -> " ++ (two ++ rest)))) (binder_name-IsWordText d) refl in
      let r = h (w.place + 1 + 1 + 1) (codes " -> " ++ (two ++ rest)) refl in
      let s = k (r.place + 1 + 1 + 1 + 1) rest stop in
      record {
        front = λ tokens. at p (Name (binder_name d)) ∷ at (w.place + 1) Colon ∷ r.front (at (r.place + 1) Arrow ∷ s.front tokens);
        place = s.place;
        is = ap (tokens_from p) (binder_parts (binder_name d) one (codes " -> ") two rest)
            ∙ w.is
            ∙ ap (before (at p (Name (binder_name d)) ∷ [])) (colon_at w.place (one ++ (codes " -> " ++ (two ++ rest))))
            ∙ ap (put (λ tokens. at p (Name (binder_name d)) ∷ at (w.place + 1) Colon ∷ tokens)) r.is
            ∙ ap (put (λ tokens. at p (Name (binder_name d)) ∷ at (w.place + 1) Colon ∷ r.front tokens)) (arrow_at r.place (two ++ rest))
            ∙ ap (put (λ tokens. at p (Name (binder_name d)) ∷ at (w.place + 1) Colon ∷ r.front (at (r.place + 1) Arrow ∷ tokens))) s.is;
        holds = λ tokens. product (r.holds (at (r.place + 1) Arrow ∷ s.front tokens)) (s.holds tokens);
      }

  abstraction_says : (d : ℕ) {a b : Tree} (one two : List ℕ) → Says (λ tokens rest. Application ds (binders d) tokens rest a) one
      → Says (λ tokens rest. Term ds (binders (suc d)) tokens rest b) two
      → Says (λ tokens rest. Term ds (binders d) tokens rest (Lam a b)) (binder_name d ++ codes " : " ++ one ++ codes " => " ++ two)
  abstraction_says d one two h k p rest stop =
      let w = word_at p (binder_name d) (32 ∷ 58 ∷ 32 ∷ (one ++ (codes " => " ++ (two ++ rest)))) (binder_name-IsWordText d) refl in
      let r = h (w.place + 1 + 1 + 1) (codes " => " ++ (two ++ rest)) refl in
      let s = k (r.place + 1 + 1 + 1 + 1) rest stop in
      record {
        front = λ tokens. at p (Name (binder_name d)) ∷ at (w.place + 1) Colon ∷ r.front (at (r.place + 1) FatArrow ∷ s.front tokens);
        place = s.place;
        is = ap (tokens_from p) (binder_parts (binder_name d) one (codes " => ") two rest)
            ∙ w.is
            ∙ ap (before (at p (Name (binder_name d)) ∷ [])) (colon_at w.place (one ++ (codes " => " ++ (two ++ rest))))
            ∙ ap (put (λ tokens. at p (Name (binder_name d)) ∷ at (w.place + 1) Colon ∷ tokens)) r.is
            ∙ ap (put (λ tokens. at p (Name (binder_name d)) ∷ at (w.place + 1) Colon ∷ r.front tokens)) (fat_arrow_at r.place (two ++ rest))
            ∙ ap (put (λ tokens. at p (Name (binder_name d)) ∷ at (w.place + 1) Colon ∷ r.front (at (r.place + 1) FatArrow ∷ tokens))) s.is;
        holds = λ tokens. abstraction (r.holds (at (r.place + 1) FatArrow ∷ s.front tokens)) (s.holds tokens);
      }

  -- the text of every tree that can be written
  pub tree_said : AreNamed → (d : ℕ) (t : Tree) → IsWritable d t → IsSaid d t
  tree_said n d SortType w = word_said {d = d} {t = SortType} (record { first = 84; more = codes "ype"; is = refl; other = refl }) type_says
  tree_said n d SortKind w = absurd (cc (w.kindless))
  tree_said n d (Var k) w = variable_said d k (omega (arith, w.bound)) (omega (arith, w.few))
  tree_said n d (Sym s) w = symbol_said d s (n.each s (omega (arith, w.known)))
  tree_said n d (App f x) w =
      let one = tree_said n d f (writable_function f x w) in
      let two = tree_said n d x (writable_argument f x w) in
      let says = application_says (enclosed (is_binder f) (tree_text m d f)) (enclosed (not (is_word x)) (tree_text m d x))
      (domain_says (is_binder f) (tree_text m d f) one.opener one.as_application one.term)
      (enclosed_says (not (is_word x)) (tree_text m d x) two.opener (λ e. two.as_atom (not-false (is_word x) e)) two.term) in
      record {
        opener = opener_append (enclosed (is_binder f) (tree_text m d f) ++ codes " ") (enclosed (not (is_word x)) (tree_text m d x))
            (opener_append (enclosed (is_binder f) (tree_text m d f)) (codes " ") (enclosed_opener (is_binder f) (tree_text m d f) one.opener));
        term = found_as (λ tokens rest a. plain a) says;
        as_application = λ e. says;
        as_atom = λ e. absurd (cc);
      }
  tree_said n d (Lam a b) w =
      let one = tree_said n d a (writable_domain a b (writable_product a b w)) in
      let two = tree_said n (suc d) b (writable_body a b (writable_product a b w)) in
      record {
        opener = record {
          first = 118;
          more = decimal d ++ codes " : " ++ enclosed (is_binder a) (tree_text m d a) ++ codes " => " ++ tree_text m (suc d) b;
          is = refl;
          other = refl;
        };
        term = abstraction_says d (enclosed (is_binder a) (tree_text m d a)) (tree_text m (suc d) b)
            (domain_says (is_binder a) (tree_text m d a) one.opener one.as_application one.term) two.term;
        as_application = λ e. absurd (cc);
        as_atom = λ e. absurd (cc);
      }
  tree_said n d (Pi a b) w =
      let one = tree_said n d a (writable_domain a b w) in
      let two = tree_said n (suc d) b (writable_body a b w) in
      record {
        opener = record {
          first = 118;
          more = decimal d ++ codes " : " ++ enclosed (is_binder a) (tree_text m d a) ++ codes " -> " ++ tree_text m (suc d) b;
          is = refl;
          other = refl;
        };
        term = product_says d (enclosed (is_binder a) (tree_text m d a)) (tree_text m (suc d) b)
            (domain_says (is_binder a) (tree_text m d a) one.opener one.as_application one.term) two.term;
        as_application = λ e. absurd (cc);
        as_atom = λ e. absurd (cc);
      }
