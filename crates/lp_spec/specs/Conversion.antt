-- One step of reduction, and conversion (Cousineau and Dowek, Embedding pure type systems in the lambda-Pi-calculus modulo, 2007; the
-- rewriting rule of term is that of Assaf and Burel, Translating HOL to Dedukti, 2015). No order of steps and no bound on them is meant.
use Rattle.std.specs.Prelude.{◌≡◌, ℕ, List, Option, Some, None, option_and_then}
use Rattle.lp_spec.specs.declared.form.Form.{Form}
use Rattle.lp_spec.specs.declared.form.Form.TheVariants.{Symbol, Def, Thm}
use Rattle.lp_spec.specs.Trees.{Tree, Sym, App, Lam, Pi, lift, put}
use Rattle.lp_spec.specs.Modules.{Declaration, symbol_declaration, arr_of, term_of}

-- the body for which a declaration's symbol stands: that of a definition; a theorem never stands for its proof
abbrev pub definition_of : Form → Option Tree → Option Tree
definition_of Symbol body = None
definition_of Def body = body
definition_of Thm body = None

-- the body for which a symbol of the module stands
abbrev pub symbol_definition : List Declaration → ℕ → Option Tree
symbol_definition m s = option_and_then (λ d. definition_of d.form d.body) (symbol_declaration m s)

-- One step, anywhere in a tree: an abstraction takes its argument, a definition's symbol becomes its body, or
-- `term (arr a b)` becomes `term a -> term b`.
pub data Step (m : List Declaration) : Tree → Tree → Type 0 where
  beta : {a b x u : Tree} → put x b ≡ u → Step m (App (Lam a b) x) u
  delta : {s : ℕ} {u : Tree} → symbol_definition m s ≡ Some u → Step m (Sym s) u
  rule : {a b u : Tree} → Pi (term_of a) (lift 1 (term_of b)) ≡ u → Step m (term_of (arr_of a b)) u
  app_function : {f g x : Tree} → Step m f g → Step m (App f x) (App g x)
  app_argument : {f x y : Tree} → Step m x y → Step m (App f x) (App f y)
  lam_domain : {a c b : Tree} → Step m a c → Step m (Lam a b) (Lam c b)
  lam_body : {a b c : Tree} → Step m b c → Step m (Lam a b) (Lam a c)
  pi_domain : {a c b : Tree} → Step m a c → Step m (Pi a b) (Pi c b)
  pi_body : {a b c : Tree} → Step m b c → Step m (Pi a b) (Pi a c)

-- a finite chain of steps
pub data Steps (m : List Declaration) : Tree → Tree → Type 0 where
  done : {t : Tree} → Steps m t t
  next : {t u v : Tree} → Step m t u → Steps m u v → Steps m t v

-- a finite chain of steps, each forward or back
pub data Conv (m : List Declaration) : Tree → Tree → Type 0 where
  same : {t : Tree} → Conv m t t
  forth : {t u v : Tree} → Step m t u → Conv m u v → Conv m t v
  back : {t u v : Tree} → Step m u t → Conv m u v → Conv m t v
