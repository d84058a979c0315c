-- The directed rules of typing, and the price of their answers. A rule is a plan: what it asks, one question after another, and what it
-- says in the end. Each question costs one step, and the steps of its own plan.
use Rattle.std.specs.Prelude.{◌≡◌, ℕ, suc, ◌+◌, Bool, true, false, if◌then◌else◌, List, [], ◌∷◌, slice_get, Option, Some, None, option_map, take}
use Rattle.lp_spec.specs.Trees.{Tree, SortType, SortKind, Var, Sym, App, Lam, Pi, lift, put, tree_eq}
use Rattle.lp_spec.specs.Modules.{Declaration, symbol_type}
use Rattle.lp_spec.specs.HeadSteps.{head_step}

-- what is asked: the type of a tree in a context; the product that head steps reach from a tree; whether a type that was found is as good
-- as the type that is expected; whether two trees are convertible, the expected one first
pub data Question : Type 0 where
  Infer : List Tree → Tree → Question
  Reach : Tree → Question
  Meet : List Tree → Tree → Tree → Question
  Convert : Tree → Tree → Question

-- a tree that was found, where the question is one of yes or no the expected tree; or no
pub data Reply : Type 0 where
  Found : Tree → Reply
  No : Reply

-- a reply, or a question and how to go on with the tree that is found; where the reply to a question is no, so is the plan's
pub data Plan : Type 0 where
  Say : Reply → Plan
  Ask : Question → (Tree → Plan) → Plan

-- goes on only where the tree is Type
abbrev pub if_type : Tree → Plan → Plan
if_type SortType rest = rest
if_type _ rest = Say No

-- goes on only where the tree is Type or Kind
abbrev pub if_sort : Tree → Plan → Plan
if_sort SortType rest = rest
if_sort SortKind rest = rest
if_sort _ rest = Say No

-- goes on unless the tree is Kind
abbrev pub unless_kind : Tree → Plan → Plan
unless_kind SortKind rest = Say No
unless_kind _ rest = rest

-- finds what there may be
abbrev pub found_if : Option Tree → Plan
found_if None = Say No
found_if (Some t) = Say (Found t)

-- infers that the tree has a sort; a checker without rechecks leaves it out
abbrev pub recheck : Bool → List Tree → Tree → Plan → Plan
recheck true G t rest = Ask (Infer G t) (λ s. if_sort s rest)
recheck false G t rest = rest

-- goes on with the domain and the body of a product
abbrev pub if_product : Tree → (Tree → Tree → Plan) → Plan
if_product (Pi A B) rest = rest A B
if_product _ rest = Say No

-- goes on with the tree that a head step made
abbrev pub if_step : Option Tree → (Tree → Plan) → Plan
if_step None rest = Say No
if_step (Some t) rest = rest t

-- the parts of the product that a type is, or that head steps reach from it and that has a sort
abbrev pub product_of : List Declaration → Bool → List Tree → Tree → (Tree → Tree → Plan) → Plan
product_of m r G (Pi A B) rest = rest A B
product_of m r G F rest = if_step (head_step m F) (λ H. Ask (Reach H) (λ P. recheck r G P (if_product P rest)))

-- the plan for the type of a tree
abbrev pub infer : List Declaration → Bool → List Tree → Tree → Plan
infer m r G SortType = Say (Found SortKind)
infer m r G SortKind = Say No
infer m r G (Var n) = found_if (option_map (lift (suc n)) (slice_get G n))
infer m r G (Sym s) = found_if (symbol_type m s)
infer m r G (App f x) = Ask (Infer G f) (λ F. product_of m r G F (λ A B. Ask (Infer G x) (λ X. Ask (Meet G A X) (λ _. Say (Found (put x B))))))
infer m r G (Lam A b) = Ask (Infer G A) (λ s. if_type s (Ask (Infer (A ∷ G) b) (λ B. unless_kind B (Say (Found (Pi A B))))))
infer m r G (Pi A B) = Ask (Infer G A) (λ s. if_type s (Ask (Infer (A ∷ G) B) (λ o. if_sort o (Say (Found o)))))

-- the plan for the product that head steps reach from a tree
abbrev pub reach : List Declaration → Tree → Plan
reach m (Pi A B) = Say (Found (Pi A B))
reach m F = if_step (head_step m F) (λ H. Ask (Reach H) (λ P. Say (Found P)))

-- the plan for whether the type F, which was found, is as good as E
abbrev pub meet : Bool → List Tree → Tree → Tree → Plan
meet r G E F = if tree_eq E F then Say (Found E) else recheck r G E (Ask (Convert E F) (λ _. Say (Found E)))

-- the plan for the conversion of the parts of two trees
abbrev pub convert_parts : Tree → Tree → Plan
convert_parts (App f x) (App g y) = Ask (Convert f g) (λ _. Ask (Convert x y) (λ _. Say (Found (App f x))))
convert_parts (Lam a b) (Lam c d) = Ask (Convert a c) (λ _. Ask (Convert b d) (λ _. Say (Found (Lam a b))))
convert_parts (Pi a b) (Pi c d) = Ask (Convert a c) (λ _. Ask (Convert b d) (λ _. Say (Found (Pi a b))))
convert_parts _ _ = Say No

-- the plan for the conversion of two trees that differ, by a head step of the first, else of the second, else of their parts
abbrev pub convert_by : Tree → Tree → Option Tree → Option Tree → Plan
convert_by E F (Some H) _ = Ask (Convert H F) (λ _. Say (Found E))
convert_by E F None (Some H) = Ask (Convert E H) (λ _. Say (Found E))
convert_by E F None None = convert_parts E F

abbrev pub convert : List Declaration → Tree → Tree → Plan
convert m E F = if tree_eq E F then Say (Found E) else convert_by E F (head_step m E) (head_step m F)

abbrev pub plan : List Declaration → Bool → Question → Plan
plan m r (Infer G t) = infer m r G t
plan m r (Reach F) = reach m F
plan m r (Meet G E F) = meet r G E F
plan m r (Convert E F) = convert m E F

-- Ends m r p reply n: the plan ends in the reply after n steps.
pub data Ends (m : List Declaration) (r : Bool) : Plan → Reply → ℕ → Type 0 where
  said : {reply : Reply} → Ends m r (Say reply) reply 0
  refused : {q : Question} {rest : Tree → Plan} {n : ℕ} → Ends m r (plan m r q) No n → Ends m r (Ask q rest) No (suc n)
  asked : {q : Question} {rest : Tree → Plan} {t : Tree} {reply : Reply} {n k : ℕ} → Ends m r (plan m r q) (Found t) n → Ends m r (rest t) reply k
      → Ends m r (Ask q rest) reply (suc (n + k))

-- the question alone
abbrev pub alone : Question → Plan
alone q = Ask q (λ t. Say (Found t))

-- the plan for a declaration: its type has the sort Type, and the body has a type convertible to it
abbrev pub body_plan : Tree → Option Tree → Plan
body_plan A None = Say (Found A)
body_plan A (Some t) = Ask (Infer [] t) (λ F. Ask (Convert A F) (λ _. Say (Found A)))

abbrev pub declaration_plan : Declaration → Plan
declaration_plan d = Ask (Infer [] d.ty) (λ s. if_type s (body_plan d.ty d.body))

-- the check of the declaration with this number, over those before it
pub record Check (m : List Declaration) (i : ℕ) (reply : Reply) (price : ℕ) : Type 0 where
  pub declaration : Declaration
  pub at : slice_get m i ≡ Some declaration
  pub ends : Ends (take i m) true (declaration_plan declaration) reply price
