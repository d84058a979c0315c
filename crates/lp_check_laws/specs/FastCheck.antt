-- A checker without rechecks finds what one with rechecks finds, in no more steps.
use Rattle.std.proofs.Common.{◌≡◌, refl, sym, subst, ℕ, ◌≤◌, arith, Bool, true, false, List, Option, Some, None}
use Rattle.std.specs.Prelude.{if◌then◌else◌}
use Rattle.lp_spec.specs.Trees.{Tree, SortType, SortKind, Var, Sym, App, Lam, Pi, put, tree_eq}
use Rattle.lp_spec.specs.Modules.{Declaration}
use Rattle.lp_spec.specs.HeadSteps.{head_step}
use Rattle.lp_spec.specs.Check.{Question, Infer, Reach, Meet, Convert, Reply, Found, No, Plan, Say, Ask, if_sort, if_product, if_step, recheck, product_of, infer, plan, Ends, said, refused, asked, declaration_plan}

-- the second plan is the first without some of its questions, which ask for nothing but a yes
data Drops : Plan → Plan → Type 0 where
  ends_so : {reply : Reply} → Drops (Say reply) (Say reply)
  asks_too : {q : Question} {rest less : Tree → Plan} → ((t : Tree) → Drops (rest t) (less t)) → Drops (Ask q rest) (Ask q less)
  leaves_out : {q : Question} {rest : Tree → Plan} {p : Plan} → ((t : Tree) → Drops (rest t) p) → Drops (Ask q rest) p
  finds_nothing : {p : Plan} → Drops (Say No) p

drops-itself : (p : Plan) → Drops p p
drops-itself (Say reply) = ends_so
drops-itself (Ask q rest) = asks_too (λ t. drops-itself (rest t))

-- a recheck is left out
drops-recheck : (G : List Tree) (t : Tree) (rest : Plan) → Drops (recheck true G t rest) rest
drops-recheck G t rest = leaves_out sort
  where
    sort : (s : Tree) → Drops (if_sort s rest) rest
    sort SortType = drops-itself rest
    sort SortKind = drops-itself rest
    sort (Var n) = finds_nothing
    sort (Sym k) = finds_nothing
    sort (App f x) = finds_nothing
    sort (Lam a b) = finds_nothing
    sort (Pi a b) = finds_nothing

module _ (m : List Declaration) where
  drops-step : (G : List Tree) (o : Option Tree) (rest : Tree → Tree → Plan)
      → Drops (if_step o (λ H. Ask (Reach H) (λ P. recheck true G P (if_product P rest)))) (if_step o (λ H. Ask (Reach H) (λ P. if_product P rest)))
  drops-step G None rest = ends_so
  drops-step G (Some H) rest = asks_too (λ P. drops-recheck G P (if_product P rest))

  drops-product : (G : List Tree) (F : Tree) (rest : Tree → Tree → Plan) → Drops (product_of m true G F rest) (product_of m false G F rest)
  drops-product G (Pi a b) rest = drops-itself (rest a b)
  drops-product G SortType rest = ends_so
  drops-product G SortKind rest = ends_so
  drops-product G (Var n) rest = ends_so
  drops-product G (Sym s) rest = drops-step G (head_step m (Sym s)) rest
  drops-product G (App f x) rest = drops-step G (head_step m (App f x)) rest
  drops-product G (Lam a b) rest = drops-step G (head_step m (Lam a b)) rest

  drops-meet : (b : Bool) (G : List Tree) (E F : Tree)
      → Drops (if b then Say (Found E) else recheck true G E (Ask (Convert E F) (λ _. Say (Found E))))
      (if b then Say (Found E) else Ask (Convert E F) (λ _. Say (Found E)))
  drops-meet true G E F = ends_so
  drops-meet false G E F = drops-recheck G E (Ask (Convert E F) (λ _. Say (Found E)))

  drops-plan : (q : Question) → Drops (plan m true q) (plan m false q)
  drops-plan (Infer G (App f x)) = asks_too (λ F. drops-product G F (λ A B. Ask (Infer G x) (λ X. Ask (Meet G A X) (λ _. Say (Found (put x B))))))
  drops-plan (Infer G SortType) = ends_so
  drops-plan (Infer G SortKind) = ends_so
  drops-plan (Infer G (Var n)) = drops-itself (infer m true G (Var n))
  drops-plan (Infer G (Sym s)) = drops-itself (infer m true G (Sym s))
  drops-plan (Infer G (Lam a b)) = drops-itself (infer m true G (Lam a b))
  drops-plan (Infer G (Pi a b)) = drops-itself (infer m true G (Pi a b))
  drops-plan (Reach F) = drops-itself (plan m true (Reach F))
  drops-plan (Meet G E F) = drops-meet (tree_eq E F) G E F
  drops-plan (Convert E F) = drops-itself (plan m true (Convert E F))

  -- the plan finds the tree, in no more steps
  pub record FindsFast (p : Plan) (t : Tree) (most : ℕ) : Type 0 where
    pub price : ℕ
    pub ends : Ends m false p (Found t) price
    pub within : price ≤ most

  no-more : {p less : Plan} {reply : Reply} {n : ℕ} (t : Tree) → Ends m true p reply n → reply ≡ Found t → Drops p less → FindsFast less t n
  no-more t (said {reply = reply}) e ends_so = record { price = 0; ends = subst (λ w. Ends m false (Say w) (Found t) 0) (sym e) said; within = omega arith }
  no-more t said e finds_nothing = absurd (cc)
  no-more t (refused h) e d = absurd (cc)
  no-more t (asked {q = q} {t = u} h g) e (asks_too f) =
      let k = no-more u h refl (drops-plan q) in
      let l = no-more t g e (f u) in
      record { price = _; ends = asked k.ends l.ends; within = omega (arith, k.within, l.within) }
  no-more t (asked {t = u} h g) e (leaves_out f) = let l = no-more t g e (f u) in record { price = l.price; ends = l.ends; within = omega (arith, l.within) }

  -- A declaration that passes with rechecks passes without them, at no greater price.
  pub fast-passes : (d : Declaration) (t : Tree) (n : ℕ) → Ends m true (declaration_plan d) (Found t) n → FindsFast (declaration_plan d) t n
  fast-passes d t n h = no-more t h refl (drops-itself (declaration_plan d))
