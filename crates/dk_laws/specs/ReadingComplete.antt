-- A text of the grammar is not refused.
use Rattle.std.proofs.Common.{◌≡◌, ℕ, ◌≤◌, refl, ap, ◌∙◌, Bool, true, false, List, [], ◌∷◌, ◌++◌, Option, None, Some, arith}
use Rattle.std.specs.Prelude.{nat_le, if◌then◌else◌}
use Rattle.std.proofs.lemmas.Grind.{common_steps}
use Rattle.lp_spec.specs.declared.form.Form.TheVariants.{Symbol, Def, Thm}
use Rattle.lp_spec.specs.Trees.{Tree, Var, Lam, Pi, depth}
use Rattle.lp_spec.specs.Modules.{Declaration, signature}
use Rattle.lp_spec.specs.ModuleOrder.{is_declared}
use Rattle.lp_spec.specs.Tokens.{Token, Name, Colon, Assign, Arrow, Dot, RightParen, Placed, at, ended}
use Rattle.lp_spec.specs.ShortNames.{named_tree}
use Rattle.lp_spec.specs.Reading.{Scope, variable_of, symbol_of, max_depth, Atom, variable, symbol, sort, enclosed, Arguments, none, argument, Application, application, Term, product, abstraction, nameless, plain, Declares, symbol_declaration, definition, theorem, Completes, complete, next}
use Rattle.lp_spec.specs.ReadingFaults.{Frame, Enclosing, Domain, Product, Abstraction, scope_of, Head, TypeOf, BodyOf, State, Between, AfterName, AtTerm, InApplication, Outcome, Goes, stops, meant, meaning, argued, atom, unless_deep, goes_on, advance_all, reads, answers, NameTwice, DkTooDeep}
use Rattle.dk_laws.specs.TermEnds.{IsApplied, IsEnded, IsOpen, ended_applied}

module _ (m : List Declaration) where
  abbrev run : State → List Placed → Outcome
  run state tokens = advance_all (Goes m state) tokens

  atom_applied : {scope : Scope} {tokens rest : List Placed} {x : Tree} → Atom m scope tokens rest x → IsApplied tokens
  atom_applied (variable e) = tt
  atom_applied (symbol e f) = tt
  atom_applied sort = tt
  atom_applied (enclosed t) = tt

  arguments_applied : {scope : Scope} {tokens rest : List Placed} {f t : Tree} → Arguments m scope f tokens rest t → IsApplied rest → IsApplied tokens
  arguments_applied none h = h
  arguments_applied (argument a args) h = atom_applied a

  -- what ends a term ends the product or abstraction that the term is the body of
  ended_product : (head : Head) (frames : List Frame) (name : List ℕ) (a b : Tree) (tokens : List Placed) → IsEnded tokens
      → run (InApplication head (Product name a ∷ frames) (Some b)) tokens ≡ run (InApplication head frames (Some (Pi a b))) tokens
  ended_product head frames name a b (at p RightParen ∷ tokens) h = refl
  ended_product head frames name a b (at p Dot ∷ tokens) h = refl
  ended_product head frames name a b (at p Assign ∷ tokens) h = refl
  ended_product head frames name a b _ h = absurd h

  ended_abstraction : (head : Head) (frames : List Frame) (name : List ℕ) (a b : Tree) (tokens : List Placed) → IsEnded tokens
      → run (InApplication head (Abstraction name a ∷ frames) (Some b)) tokens ≡ run (InApplication head frames (Some (Lam a b))) tokens
  ended_abstraction head frames name a b (at p RightParen ∷ tokens) h = refl
  ended_abstraction head frames name a b (at p Dot ∷ tokens) h = refl
  ended_abstraction head frames name a b (at p Assign ∷ tokens) h = refl
  ended_abstraction head frames name a b _ h = absurd h

  arrow_opens : (head : Head) (frames : List Frame) (a : Tree) (p : ℕ) (tokens : List Placed) → IsOpen frames
      → run (InApplication head frames (Some a)) (at p Arrow ∷ tokens) ≡ run (AtTerm head (Product [] a ∷ frames)) tokens
  arrow_opens head (Domain name ∷ frames) a p tokens h = absurd h
  arrow_opens head _ a p tokens h = refl

  -- an identifier that means a tree, after what it is applied to, if anything
  name_runs : (head : Head) (frames : List Frame) (f : Option Tree) (p : ℕ) (name : List ℕ) (x : Tree) (rest : List Placed) → meaning m frames name ≡ Some x
      → run (InApplication head frames f) (at p (Name name) ∷ rest) ≡ run (InApplication head frames (Some (argued f x))) rest
  name_runs head frames f p name x rest e = ap (λ o. advance_all (atom m head frames f p name o) rest) e

  -- and where it begins a term
  first_on : (head : Head) (frames : List Frame) (p : ℕ) (name : List ℕ) (x : Tree) (q : ℕ) (token : Token) (rest : List Placed)
      → meaning m frames name ≡ Some x
      → advance_all (goes_on m head frames p name (meaning m frames name) q token) rest ≡ run (InApplication head frames (Some x)) (at q token ∷ rest)
  first_on head frames p name x q token rest e = ap (λ o. advance_all (goes_on m head frames p name o q token) rest) e

  first_runs : (head : Head) (frames : List Frame) (p : ℕ) (name : List ℕ) (x : Tree) (rest : List Placed) → meaning m frames name ≡ Some x → IsApplied rest
      → run (AtTerm head frames) (at p (Name name) ∷ rest) ≡ run (InApplication head frames (Some x)) rest
  first_runs head frames p name x [] e h = absurd h
  first_runs head frames p name x (at q Colon ∷ rest) e h = absurd h
  first_runs head frames p name x (at q token ∷ rest) e h = first_on head frames p name x q token rest e

  variable_meant : (frames : List Frame) (scope : Scope) (name : List ℕ) (n : ℕ) → scope_of frames ≡ scope → variable_of scope name ≡ Some n
      → meaning m frames name ≡ Some (Var n)
  variable_meant frames scope name n s e = ap (λ v. meant m v (symbol_of m name)) (ap (λ w. variable_of w name) s ∙ e)

  symbol_meant : (frames : List Frame) (scope : Scope) (name : List ℕ) (n : ℕ) → scope_of frames ≡ scope → variable_of scope name ≡ None
      → symbol_of m name ≡ Some n → meaning m frames name ≡ Some (named_tree m n)
  symbol_meant frames scope name n s e f = ap (λ v. meant m v (symbol_of m name)) (ap (λ w. variable_of w name) s ∙ e) ∙ ap (meant m None) f

  mutual
    atom_runs : {scope : Scope} {tokens rest : List Placed} {x : Tree} → Atom m scope tokens rest x → (head : Head) (frames : List Frame) (f : Option Tree)
        → scope_of frames ≡ scope → run (InApplication head frames f) tokens ≡ run (InApplication head frames (Some (argued f x))) rest
    atom_runs {scope = scope} {rest = rest} (variable {p = p} {n = n} {name = name} e) head frames f s =
        name_runs head frames f p name (Var n) rest (variable_meant frames scope name n s e)
    atom_runs {scope = scope} {rest = rest} (symbol {p = p} {s = n} {name = name} e g) head frames f s =
        name_runs head frames f p name (named_tree m n) rest (symbol_meant frames scope name n s e g)
    atom_runs sort head frames f s = refl
    atom_runs (enclosed t) head frames f s = term_runs t head (Enclosing f ∷ frames) s tt tt

    first_atom_runs : {scope : Scope} {tokens rest : List Placed} {x : Tree} → Atom m scope tokens rest x → (head : Head) (frames : List Frame)
        → scope_of frames ≡ scope → IsApplied rest → run (AtTerm head frames) tokens ≡ run (InApplication head frames (Some x)) rest
    first_atom_runs {scope = scope} {rest = rest} (variable {p = p} {n = n} {name = name} e) head frames s h =
        first_runs head frames p name (Var n) rest (variable_meant frames scope name n s e) h
    first_atom_runs {scope = scope} {rest = rest} (symbol {p = p} {s = n} {name = name} e g) head frames s h =
        first_runs head frames p name (named_tree m n) rest (symbol_meant frames scope name n s e g) h
    first_atom_runs sort head frames s h = refl
    first_atom_runs (enclosed t) head frames s h = term_runs t head (Enclosing None ∷ frames) s tt tt

    arguments_run : {scope : Scope} {tokens rest : List Placed} {f t : Tree} → Arguments m scope f tokens rest t → (head : Head) (frames : List Frame)
        → scope_of frames ≡ scope → run (InApplication head frames (Some f)) tokens ≡ run (InApplication head frames (Some t)) rest
    arguments_run none head frames s = refl
    arguments_run (argument {f = f} a args) head frames s = atom_runs a head frames (Some f) s ∙ arguments_run args head frames s

    application_runs : {scope : Scope} {tokens rest : List Placed} {t : Tree} → Application m scope tokens rest t → (head : Head) (frames : List Frame)
        → scope_of frames ≡ scope → run (InApplication head frames None) tokens ≡ run (InApplication head frames (Some t)) rest
    application_runs (application a args) head frames s = atom_runs a head frames None s ∙ arguments_run args head frames s

    first_application_runs : {scope : Scope} {tokens rest : List Placed} {t : Tree} → Application m scope tokens rest t → (head : Head) (frames : List Frame)
        → scope_of frames ≡ scope → IsApplied rest → run (AtTerm head frames) tokens ≡ run (InApplication head frames (Some t)) rest
    first_application_runs (application a args) head frames s h = first_atom_runs a head frames s (arguments_applied args h) ∙ arguments_run args head frames s

    pub term_runs : {scope : Scope} {tokens rest : List Placed} {t : Tree} → Term m scope tokens rest t → (head : Head) (frames : List Frame)
        → scope_of frames ≡ scope → IsOpen frames → IsEnded rest → run (AtTerm head frames) tokens ≡ run (InApplication head frames (Some t)) rest
    term_runs {rest = rest} (product {name = name} {a = a} {b = b} d t) head frames s o h =
        application_runs d head (Domain name ∷ frames) s ∙ term_runs t head (Product name a ∷ frames) (ap (λ w. name ∷ w) s) tt h
        ∙ ended_product head frames name a b rest h
    term_runs {rest = rest} (abstraction {name = name} {a = a} {b = b} d t) head frames s o h =
        application_runs d head (Domain name ∷ frames) s ∙ term_runs t head (Abstraction name a ∷ frames) (ap (λ w. name ∷ w) s) tt h
        ∙ ended_abstraction head frames name a b rest h
    term_runs {rest = rest} (nameless {more = more} {r = r} {a = a} {b = b} d t) head frames s o h =
        first_application_runs d head frames s tt ∙ arrow_opens head frames a r more o ∙ term_runs t head (Product [] a ∷ frames) (ap (λ w. [] ∷ w) s) tt h
        ∙ ended_product head frames [] a b rest h
    term_runs {rest = rest} (plain d) head frames s o h = first_application_runs d head frames s (ended_applied rest h)

  pub names_run : (state : State) (o : Outcome) (name : List ℕ) (p : ℕ) (tokens : List Placed) (b : Bool) → b ≡ false
      → advance_all (if b then stops p (NameTwice name) else o) tokens ≡ advance_all o tokens
  names_run state o name p tokens b e = ap (λ c. advance_all (if c then stops p (NameTwice name) else o) tokens) e

  pub shallow_runs : (t : Tree) (p : ℕ) (o : Outcome) (tokens : List Placed) → depth t ≤ max_depth
      → advance_all (unless_deep t p o) tokens ≡ advance_all o tokens
  shallow_runs t p o tokens d =
      let e : nat_le (depth t) max_depth ≡ true = grind (arith, common_steps) in
      ap (λ c. advance_all (if c then o else stops p DkTooDeep) tokens) e

  pub declares_runs : {tokens rest : List Placed} {d : Declaration} → Declares m tokens rest d
      → run Between tokens ≡ advance_all (Goes (m ++ d ∷ []) Between) rest
  declares_runs (symbol_declaration {tokens = tokens} {rest = rest} {p = p} {q = q} {r = r} {name = name} {ty = ty} new t) =
      names_run Between (Goes m (AfterName Symbol name)) name p (at q Colon ∷ tokens) (is_declared (signature ++ m) name) new
      ∙ term_runs t.term (TypeOf Symbol name) [] refl tt tt
      ∙ shallow_runs ty r (Goes (m ++ record { name = name; form = Symbol; ty = ty; body = None } ∷ []) Between) rest t.shallow
  declares_runs (definition {tokens = tokens} {more = more} {rest = rest} {p = p} {q = q} {r = r} {s = s} {name = name} {ty = ty} {body = body} new t b) =
      names_run Between (Goes m (AfterName Def name)) name p (at q Colon ∷ tokens) (is_declared (signature ++ m) name) new
      ∙ term_runs t.term (TypeOf Def name) [] refl tt tt
      ∙ shallow_runs ty r (Goes m (AtTerm (BodyOf Def name ty) [])) more t.shallow
      ∙ term_runs b.term (BodyOf Def name ty) [] refl tt tt
      ∙ shallow_runs body s (Goes (m ++ record { name = name; form = Def; ty = ty; body = Some body } ∷ []) Between) rest b.shallow
  declares_runs (theorem {tokens = tokens} {more = more} {rest = rest} {p = p} {q = q} {r = r} {s = s} {name = name} {ty = ty} {body = body} new t b) =
      names_run Between (Goes m (AfterName Thm name)) name p (at q Colon ∷ tokens) (is_declared (signature ++ m) name) new
      ∙ term_runs t.term (TypeOf Thm name) [] refl tt tt
      ∙ shallow_runs ty r (Goes m (AtTerm (BodyOf Thm name ty) [])) more t.shallow
      ∙ term_runs b.term (BodyOf Thm name ty) [] refl tt tt
      ∙ shallow_runs body s (Goes (m ++ record { name = name; form = Thm; ty = ty; body = Some body } ∷ []) Between) rest b.shallow

completes_run : {m all : List Declaration} {tokens : List Placed} → Completes m tokens all → advance_all (Goes m Between) tokens ≡ Goes all Between
completes_run complete = refl
completes_run {m = m} (next d h) = declares_runs m d ∙ completes_run h

-- tokens that complete a module are not refused
pub Completes-answers : {m all : List Declaration} {tokens : List Placed} (p : ℕ) → Completes m tokens all
    → answers (advance_all (Goes m Between) tokens) (ended p) ≡ reads all
Completes-answers p h = ap (λ o. answers o (ended p)) (completes_run h)
