-- What is read names no definition with a short name: each such name is read as the tree for which it is short.
use Rattle.std.proofs.Common.{◌≡◌, ℕ, suc, ◌+◌, ◌<◌, ◌≤◌, inl, inr, refl, sym, ap, subst, ◌∙◌, append_assoc, Bool, true, false, List, [], ◌∷◌, ◌++◌, length, length-append, Option, None, Some, slice_get, arith}
use Rattle.std.specs.Prelude.{zero, if◌then◌else◌, option_and_then}
use Rattle.std.specs.Option.{unwrap_or}
use Rattle.std.specs.Str.{bytes_eq}
use Rattle.std.specs.List.{AllByRecursion}
use Rattle.std.proofs.lemmas.List.Quantifiers.{position-Some}
use Rattle.std.proofs.lemmas.Option.{same_Some}
use Rattle.std.proofs.lemmas.List.{append-nil}
use Rattle.lp_spec.specs.declared.form.Form.{Form}
use Rattle.lp_spec.specs.declared.form.Form.TheVariants.{Symbol, Def, Thm}
use Rattle.lp_spec.specs.Trees.{Tree, SortType, SortKind, Var, Sym, App, Lam, Pi}
use Rattle.lp_spec.specs.Modules.{Declaration, signature, symbol}
use Rattle.lp_spec.specs.ModuleOrder.{symbols, IsOver, IsBodyOver, AreDeclared, IsModule}
use Rattle.lp_spec.specs.Conversion.{definition_of}
use Rattle.lp_spec.specs.ShortNames.{is_short_name, short_body, short_for, named_tree, IsLong, IsBodyLong, AreLong, NoneShort}
use Rattle.lp_spec.specs.TextLaws.{ReadsLong}
use Rattle.lp_spec.specs.Tokens.{Placed}
use Rattle.lp_spec.specs.Reading.{Scope, Atom, variable, sort, enclosed, Arguments, none, argument, Application, application, Term, product, abstraction, nameless, plain, Declares, symbol_declaration as a_symbol, definition, theorem, Completes, complete, next}
use Rattle.lp_binding_laws.specs.LookUps.{slice_get-append, slice_get-one_more}

-- a declaration's name may be short only for its body
short_body-Some : (d : Declaration) (t : Tree) → short_body d ≡ Some t → definition_of d.form d.body ≡ Some t
short_body-Some d t e = go (is_short_name d.name) e
  where
    go : (b : Bool) → (if b then definition_of d.form d.body else None) ≡ Some t → definition_of d.form d.body ≡ Some t
    go true e = e
    go false e = absurd (cc)

definition-body : (f : Form) (body : Option Tree) (t : Tree) → definition_of f body ≡ Some t → (f ≡ Def) × (body ≡ Some t)
definition-body Symbol body t e = absurd (cc)
definition-body Def body t e = (refl, e)
definition-body Thm body t e = absurd (cc)

-- what holds of each tree for which a name is short
abbrev pub EachShort : List Declaration → (Tree → Type 0) → Type 0
EachShort ds P = (s : ℕ) (d : Declaration) (t : Tree) → slice_get ds s ≡ Some d → short_body d ≡ Some t → P t

-- no name of the signature is short
signature_symbols : AllByRecursion (λ (d : Declaration). short_body d ≡ None) signature
signature_symbols = (
  refl,
  (refl, (refl, (refl, (refl, (refl, (refl, (refl, (refl, (refl, (refl, (refl, (refl, (refl, (refl, (refl, (refl, (refl, tt))))))))))))))))),
)

each_of : (P : Declaration → Type 0) (ds : List Declaration) (s : ℕ) (d : Declaration) → AllByRecursion P ds → slice_get ds s ≡ Some d → P d
each_of P [] s d h e = absurd (cc)
each_of P (x ∷ ds) zero d h e = subst P (same_Some _ _ e) h.0
each_of P (x ∷ ds) (suc s) d h e = each_of P ds s d h.1 e

pub signature-EachShort : (P : Tree → Type 0) → EachShort signature P
signature-EachShort P s d t e f = let n = each_of (λ (x : Declaration). short_body x ≡ None) signature s d signature_symbols e in absurd (cc)

-- one declaration more
pub EachShort-more : (ds : List Declaration) (d : Declaration) (P Q : Tree → Type 0) → ((t : Tree) → P t → Q t) → EachShort ds P
    → ((t : Tree) → short_body d ≡ Some t → Q t) → EachShort (ds ++ d ∷ []) Q
EachShort-more ds d P Q weaker h k s x t e f = elim (slice_get-one_more ds d x s e) [
  | inl i ↦ weaker t (h s x t i f)
  | inr i ↦ k t (subst (λ y. short_body y ≡ Some t) (sym i.1) f)
]

short_for-EachShort : (m : List Declaration) (P : Tree → Type 0) → EachShort (signature ++ m) P → (s : ℕ) (t : Tree) → short_for m s ≡ Some t → P t
short_for-EachShort m P h s t e = go (slice_get (signature ++ m) s) refl e
  where
    go : (o : Option Declaration) → slice_get (signature ++ m) s ≡ o → option_and_then short_body o ≡ Some t → P t
    go None i j = absurd (cc)
    go (Some d) i j = h s d t i j

-- each short name is short for a closed tree over the declared symbols
IsOver-more : (i j : ℕ) (t : Tree) → i ≤ j → IsOver i t → IsOver j t
IsOver-more i j t h o = record { closed = o.closed; kindless = o.kindless; known = omega (arith, h, o.known) }

body-over : (count : ℕ) (f : Form) (body : Option Tree) (t : Tree) → IsBodyOver count f body → definition_of f body ≡ Some t → IsOver count t
body-over count Symbol body t h e = absurd (cc)
body-over count Def None t h e = absurd h
body-over count Def (Some u) t h e = subst (IsOver count) (same_Some _ _ e) h
body-over count Thm body t h e = absurd (cc)

declared-over : (before ds : List Declaration) → AreDeclared before ds → EachShort before (IsOver (length before))
    → EachShort (before ++ ds) (IsOver (length (before ++ ds)))
declared-over before [] h k = subst (λ l. EachShort l (IsOver (length l))) (sym (append-nil before)) k
declared-over before (d ∷ ds) h k =
    let size : length (before ++ d ∷ []) ≡ length before + 1 = length-append before (d ∷ []) in
    subst (λ l. EachShort l (IsOver (length l))) (append_assoc before (d ∷ []) ds)
    (declared-over (before ++ d ∷ []) ds h.1
    (EachShort-more before d (IsOver (length before)) (IsOver (length (before ++ d ∷ [])))
    (λ t o. IsOver-more (length before) (length (before ++ d ∷ [])) t (omega (arith, size)) o) k
    (λ t e. IsOver-more (length before) (length (before ++ d ∷ [])) t (omega (arith, size))
    (body-over (length before) d.form d.body t h.0.body (short_body-Some d t e)))))

-- Short names of a module are short for closed trees
pub short-over : (m : List Declaration) → IsModule m → (s : ℕ) (t : Tree) → short_for m s ≡ Some t → IsOver (length (signature ++ m)) t
short-over m h = short_for-EachShort m (IsOver (length (signature ++ m))) (declared-over signature m h (signature-EachShort (IsOver (length signature))))

-- a tree that names no definition with a short name, over the declared symbols
record IsLongOver (m : List Declaration) (t : Tree) : Type 0 where
  long : IsLong m t
  known : symbols t ≤ length (signature ++ m)

-- a list has an item at each place below its length
slice_get-missing : {X : Type 0} (xs : List X) (i : ℕ) → slice_get xs i ≡ None → i < length xs → ⊥
slice_get-missing [] i e h = absurd (omega arith)
slice_get-missing (x ∷ xs) zero e h = absurd (cc)
slice_get-missing (x ∷ xs) (suc i) e h = slice_get-missing xs i e (omega (arith, h))

-- it stays so with one declaration more
long-more : (m : List Declaration) (d : Declaration) (t : Tree) → IsLong m t → symbols t ≤ length (signature ++ m) → IsLong (m ++ d ∷ []) t
long-more m d SortType h k = tt
long-more m d SortKind h k = tt
long-more m d (Var n) h k = tt
long-more m d (Sym s) h k = go (slice_get (signature ++ m) s) refl h
  where
    go : (o : Option Declaration) → slice_get (signature ++ m) s ≡ o → option_and_then short_body o ≡ None → short_for (m ++ d ∷ []) s ≡ None
    go None e f = absurd (slice_get-missing (signature ++ m) s e (omega (arith, k)))
    go (Some x) e f = ap (λ l. option_and_then short_body (slice_get l s)) (sym (append_assoc signature m (d ∷ []))) ∙ ap (option_and_then short_body)
        (slice_get-append (signature ++ m) (d ∷ []) s x e) ∙ f
long-more m d (App f x) h k = (long-more m d f h.0 (omega (arith, k)), long-more m d x h.1 (omega (arith, k)))
long-more m d (Lam a b) h k = (long-more m d a h.0 (omega (arith, k)), long-more m d b h.1 (omega (arith, k)))
long-more m d (Pi a b) h k = (long-more m d a h.0 (omega (arith, k)), long-more m d b h.1 (omega (arith, k)))

IsLongOver-more : (m : List Declaration) (d : Declaration) (t : Tree) → IsLongOver m t → IsLongOver (m ++ d ∷ []) t
IsLongOver-more m d t h =
    let size : length (signature ++ m ++ d ∷ []) ≡ length (signature ++ m) + 1 =
    ap length (sym (append_assoc signature m (d ∷ []))) ∙ length-append (signature ++ m) (d ∷ []) in
    record { long = long-more m d t h.long h.known; known = omega (arith, size, h.known) }

module _ (m : List Declaration) (shorts : EachShort (signature ++ m) (IsLongOver m)) where
  named_long : (s : ℕ) → s < length (signature ++ m) → IsLongOver m (named_tree m s)
  named_long s below = go (short_for m s) refl
    where
      go : (o : Option Tree) → short_for m s ≡ o → IsLongOver m (unwrap_or o (Sym s))
      go None e = record { long = e; known = omega (arith, below) }
      go (Some t) e = short_for-EachShort m (IsLongOver m) shorts s t e

  mutual
    atom_long : {scope : Scope} {tokens rest : List Placed} {t : Tree} → Atom m scope tokens rest t → IsLongOver m t
    atom_long (variable e) = record { long = tt; known = omega arith }
    atom_long (Atom.symbol {s = s} {name = name} e f) = named_long s (position-Some (λ d. bytes_eq d.name name) (signature ++ m) s (symbol [] SortType) f).0
    atom_long sort = record { long = tt; known = omega arith }
    atom_long (enclosed t) = term_long t

    arguments_long : {scope : Scope} {f : Tree} {tokens rest : List Placed} {t : Tree} → IsLongOver m f → Arguments m scope f tokens rest t → IsLongOver m t
    arguments_long h none = h
    arguments_long h (argument x args) = let k = atom_long x in arguments_long (record { long = (h.long, k.long); known = omega (arith, h.known, k.known) })
        args

    application_long : {scope : Scope} {tokens rest : List Placed} {t : Tree} → Application m scope tokens rest t → IsLongOver m t
    application_long (application f args) = arguments_long (atom_long f) args

    term_long : {scope : Scope} {tokens rest : List Placed} {t : Tree} → Term m scope tokens rest t → IsLongOver m t
    term_long (product a b) = let h = application_long a in let k = term_long b in record { long = (h.long, k.long); known = omega (arith, h.known, k.known) }
    term_long (abstraction a b) = let h = application_long a in let k =
        term_long b in record { long = (h.long, k.long); known = omega (arith, h.known, k.known) }
    term_long (nameless a b) = let h = application_long a in let k = term_long b in record { long = (h.long, k.long); known = omega (arith, h.known, k.known) }
    term_long (plain a) = application_long a

  -- the trees of a declaration
  record IsDeclarationLong (d : Declaration) : Type 0 where
    ty : IsLongOver m d.ty
    body : IsBodyLong m d.body
    short : (t : Tree) → short_body d ≡ Some t → IsLongOver m t

  bodied_long : (d : Declaration) (t : Tree) → d.body ≡ Some t → IsLongOver m d.ty → IsLongOver m t → IsDeclarationLong d
  bodied_long d t e h k = record {
    ty = h;
    body = subst (IsBodyLong m) (sym e) k.long;
    short = λ u f. let g = definition-body d.form d.body u (short_body-Some d u f) in subst (IsLongOver m) (same_Some _ _ (sym e ∙ g.1)) k;
  }

  declares_long : {tokens rest : List Placed} {d : Declaration} → Declares m tokens rest d → IsDeclarationLong d
  declares_long (a_symbol {name = name} {ty = ty} n t) =
      record { ty = term_long t.term; body = tt; short = λ u f. absurd (let e = short_body-Some (symbol name ty) u f in cc) }
  declares_long (definition n t b) = bodied_long _ _ refl (term_long t.term) (term_long b.term)
  declares_long (theorem n t b) = bodied_long _ _ refl (term_long t.term) (term_long b.term)

-- declarations, with what is before them, as a list of those that are read
AreLong-snoc : (before ds : List Declaration) (d : Declaration) → AreLong before ds → IsLong (before ++ ds) d.ty → IsBodyLong (before ++ ds) d.body
    → AreLong before (ds ++ d ∷ [])
AreLong-snoc before [] d h k l = (subst (λ w. IsLong w d.ty) (append-nil before) k, subst (λ w. IsBodyLong w d.body) (append-nil before) l, tt)
AreLong-snoc before (x ∷ ds) d h k l = (
  h.0,
  h.1,
  AreLong-snoc (before ++ x ∷ []) ds d h.2 (subst (λ w. IsLong w d.ty) (sym (append_assoc before (x ∷ []) ds)) k)
      (subst (λ w. IsBodyLong w d.body) (sym (append_assoc before (x ∷ []) ds)) l),
)

completes_long : {m all : List Declaration} {tokens : List Placed} → AreLong [] m → EachShort (signature ++ m) (IsLongOver m) → Completes m tokens all
    → AreLong [] all
completes_long h k complete = h
completes_long {m = m} h k (next {d = d} e c) =
    let l = declares_long m k e in
    completes_long (AreLong-snoc [] m d h l.ty.long l.body)
    (subst (λ w. EachShort w (IsLongOver (m ++ d ∷ []))) (append_assoc signature m (d ∷ []))
    (EachShort-more (signature ++ m) d (IsLongOver m) (IsLongOver (m ++ d ∷ [])) (λ t. IsLongOver-more m d t) k (λ t f. IsLongOver-more m d t (l.short t f))))
    c

-- What is read names no definition with a short name
pub reads_long : ReadsLong
reads_long bytes m h = completes_long {m = []} tt (signature-EachShort (IsLongOver [])) h.declares

-- Where no name is short, every tree is long
pub signature_unshort : NoneShort signature
signature_unshort = (
  refl,
  (refl, (refl, (refl, (refl, (refl, (refl, (refl, (refl, (refl, (refl, (refl, (refl, (refl, (refl, (refl, (refl, (refl, tt))))))))))))))))),
)

pub NoneShort-append : (xs ys : List Declaration) → NoneShort xs → NoneShort ys → NoneShort (xs ++ ys)
NoneShort-append [] ys h k = k
NoneShort-append (x ∷ xs) ys h k = (h.0, NoneShort-append xs ys h.1 k)

pub short_body-None : (d : Declaration) → is_short_name d.name ≡ false → short_body d ≡ None
short_body-None d e = ap (λ (b : Bool). if b then definition_of d.form d.body else None) e

pub unshort-at : (ds : List Declaration) (s : ℕ) (d : Declaration) → NoneShort ds → slice_get ds s ≡ Some d → is_short_name d.name ≡ false
unshort-at [] s d h e = absurd (cc)
unshort-at (x ∷ ds) zero d h e = subst (λ (y : Declaration). is_short_name y.name ≡ false) (same_Some _ _ e) h.0
unshort-at (x ∷ ds) (suc s) d h e = unshort-at ds s d h.1 e

pub long-everywhere : (m : List Declaration) → NoneShort m → (t : Tree) → IsLong m t
long-everywhere m h SortType = tt
long-everywhere m h SortKind = tt
long-everywhere m h (Var n) = tt
long-everywhere m h (Sym s) = go (slice_get (signature ++ m) s) refl
  where
    go : (o : Option Declaration) → slice_get (signature ++ m) s ≡ o → option_and_then short_body o ≡ None
    go None e = refl
    go (Some d) e = short_body-None d (unshort-at (signature ++ m) s d (NoneShort-append signature m signature_unshort h) e)
long-everywhere m h (App f x) = (long-everywhere m h f, long-everywhere m h x)
long-everywhere m h (Lam a b) = (long-everywhere m h a, long-everywhere m h b)
long-everywhere m h (Pi a b) = (long-everywhere m h a, long-everywhere m h b)

long_body-everywhere : (m : List Declaration) → NoneShort m → (body : Option Tree) → IsBodyLong m body
long_body-everywhere m h None = tt
long_body-everywhere m h (Some t) = long-everywhere m h t

unshort-AreLong-after : (before ds : List Declaration) → NoneShort before → NoneShort ds → AreLong before ds
unshort-AreLong-after before [] h k = tt
unshort-AreLong-after before (d ∷ ds) h k = (
  long-everywhere before h d.ty,
  long_body-everywhere before h d.body,
  unshort-AreLong-after (before ++ d ∷ []) ds (NoneShort-append before (d ∷ []) h (k.0, tt)) k.1,
)

pub unshort-AreLong : (m : List Declaration) → NoneShort m → AreLong [] m
unshort-AreLong m h = unshort-AreLong-after [] m tt h
