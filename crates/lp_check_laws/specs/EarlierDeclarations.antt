-- What the rules say of trees over the symbols of a module owes nothing to further declarations: their check has one reply and one price
-- over the module and over any longer one.
use Rattle.std.proofs.Common.{◌≡◌, refl, sym, ap, subst, ℕ, zero, suc, ◌-◌, ◌<◌, ◌≤◌, max, arith, Bool, true, false, List, [], ◌∷◌, ◌++◌, append_assoc, length, Option, Some, None, length-append}
use Rattle.std.specs.Prelude.{◌↔◌, slice_get, take, drop, option_map, option_and_then, nat_lt, nat_eq, if◌then◌else◌}
use Rattle.std.proofs.lemmas.List.{append-nil, take-append-drop}
use Rattle.std.specs.List.{AllByRecursion}
use Rattle.lp_binding_laws.specs.LookUps.{option_map-some, option_and_then-some, AllByRecursion-slice_get}
use Rattle.lp_spec.specs.declared.form.Form.{Form}
use Rattle.lp_spec.specs.declared.form.Form.TheVariants.{Symbol, Def, Thm}
use Rattle.lp_spec.specs.Trees.{Tree, SortType, SortKind, Var, Sym, App, Lam, Pi, lift_at, lift, put_at, loose, tree_eq}
use Rattle.lp_spec.specs.Modules.{Declaration, symbol, signature, symbol_declaration, symbol_type}
use Rattle.lp_spec.specs.ModuleOrder.{symbols, IsBodyOver, MayFollow, AreDeclared, IsModule}
use Rattle.lp_spec.specs.Conversion.{definition_of, symbol_definition, Step, beta, delta, rule, app_function, app_argument, lam_domain, lam_body, pi_domain, pi_body, Steps, done, next}
use Rattle.lp_typing_laws.specs.ConversionLaws.{IsClosed}
use Rattle.lp_spec.specs.HeadSteps.{unfolded, symbol_step, spine_step, head_step}
use Rattle.lp_spec.specs.Check.{Question, Infer, Reach, Meet, Convert, Reply, Found, No, Plan, Say, Ask, if_type, if_sort, unless_kind, found_if, recheck, if_product, if_step, product_of, infer, reach, convert, convert_by, convert_parts, plan, body_plan, declaration_plan, Ends, said, refused, asked}
use Rattle.lp_check_laws.specs.HeadStepLaws.{head_step-Steps}
use Rattle.std.proofs.Math.Path.{ap₂, subst₂}
use Rattle.std.proofs.lemmas.Option.{same_Some}

-- lifting leaves the symbols
pub symbols-lift_at : (c k : ℕ) (t : Tree) → symbols (lift_at c k t) ≡ symbols t
symbols-lift_at c k SortType = refl
symbols-lift_at c k SortKind = refl
symbols-lift_at c k (Var n) = refl
symbols-lift_at c k (Sym s) = refl
symbols-lift_at c k (App f x) = ap₂ max (symbols-lift_at c k f) (symbols-lift_at c k x)
symbols-lift_at c k (Lam a b) = ap₂ max (symbols-lift_at c k a) (symbols-lift_at (suc c) k b)
symbols-lift_at c k (Pi a b) = ap₂ max (symbols-lift_at c k a) (symbols-lift_at (suc c) k b)

-- what is put into a tree adds its own symbols
pub symbols-put_at : (most d : ℕ) (x t : Tree) → symbols x ≤ most → symbols t ≤ most → symbols (put_at d x t) ≤ most
symbols-put_at most d x SortType hx h = h
symbols-put_at most d x SortKind hx h = h
symbols-put_at most d x (Var n) hx h = either (nat_lt n d) (nat_eq n d)
  where
    either : (b c : Bool) → symbols (if b then Var n else (if c then lift d x else Var (n - 1))) ≤ most
    either true c = h
    either false true = omega (arith, symbols-lift_at 0 d x, hx)
    either false false = omega arith
symbols-put_at most d x (Sym s) hx h = h
symbols-put_at most d x (App f u) hx h = omega (arith, symbols-put_at most d x f hx (omega (arith, h)), symbols-put_at most d x u hx (omega (arith, h)))
symbols-put_at most d x (Lam a b) hx h = omega (arith, symbols-put_at most d x a hx (omega (arith, h)), symbols-put_at most (suc d) x b hx (omega (arith, h)))
symbols-put_at most d x (Pi a b) hx h = omega (arith, symbols-put_at most d x a hx (omega (arith, h)), symbols-put_at most (suc d) x b hx (omega (arith, h)))

-- a module whose declared types and definitions are closed, and over its own symbols
pub record IsSelfContained (m : List Declaration) : Type 0 where
  pub closed : IsClosed m
  pub types : (s : ℕ) (A : Tree) → symbol_type m s ≡ Some A → symbols A ≤ length (signature ++ m)
  pub definitions : (s : ℕ) (t : Tree) → symbol_definition m s ≡ Some t → symbols t ≤ length (signature ++ m)

-- an item of a longer list, where the shorter one has it
slice_get-longer : {X : Type 0} (xs ys : List X) (i : ℕ) → i < length xs → slice_get (xs ++ ys) i ≡ slice_get xs i
slice_get-longer [] ys i l = absurd (omega arith)
slice_get-longer (x ∷ xs) ys zero l = refl
slice_get-longer (x ∷ xs) ys (suc i) l = slice_get-longer xs ys i (omega (arith, l))

module _ (m more : List Declaration) where
  -- a declared symbol has one type and one definition over more declarations
  pub symbol_type-longer : (s : ℕ) → s < length (signature ++ m) → symbol_type (m ++ more) s ≡ symbol_type m s
  symbol_type-longer s l = ap (option_map (λ d. d.ty)) (slice_get-longer (signature ++ m) more s l)

  pub symbol_definition-longer : (s : ℕ) → s < length (signature ++ m) → symbol_definition (m ++ more) s ≡ symbol_definition m s
  symbol_definition-longer s l = ap (option_and_then (λ d. definition_of d.form d.body)) (slice_get-longer (signature ++ m) more s l)

  symbol_step-longer : (s : ℕ) (args : List Tree) → s < length (signature ++ m) → symbol_step (m ++ more) s args ≡ symbol_step m s args
  symbol_step-longer (suc (suc (suc (suc zero)))) (App (App (Sym (suc (suc (suc zero)))) a) b ∷ []) l = refl
  symbol_step-longer s args l = ap (λ o. unfolded o args) (symbol_definition-longer s l)

  spine_step-longer : (t : Tree) (args : List Tree) → symbols t ≤ length (signature ++ m) → spine_step (m ++ more) t args ≡ spine_step m t args
  spine_step-longer (App f x) args l = spine_step-longer f (x ∷ args) (omega (arith, l))
  spine_step-longer (Lam a b) (x ∷ args) l = refl
  spine_step-longer (Lam a b) [] l = refl
  spine_step-longer (Sym s) args l = symbol_step-longer s args (omega (arith, l))
  spine_step-longer (Pi a b) args l = refl
  spine_step-longer (Var n) args l = refl
  spine_step-longer SortType args l = refl
  spine_step-longer SortKind args l = refl

  -- The head step of a tree over the symbols of the module is that over more declarations.
  pub head_step-longer : (t : Tree) → symbols t ≤ length (signature ++ m) → head_step (m ++ more) t ≡ head_step m t
  head_step-longer t l = spine_step-longer t [] l

module _ (m : List Declaration) (own : IsSelfContained m) where
  symbols-Step : {t u : Tree} → Step m t u → symbols t ≤ length (signature ++ m) → symbols u ≤ length (signature ++ m)
  symbols-Step (beta {b = b} {x = x} e) h = subst (λ u. symbols u ≤ length (signature ++ m)) e
      (symbols-put_at (length (signature ++ m)) 0 x b (omega (arith, h)) (omega (arith, h)))
  symbols-Step (delta {s = s} {u = u} e) h = own.definitions s u e
  symbols-Step (rule {a = a} {b = b} e) h = subst (λ u. symbols u ≤ length (signature ++ m)) e (let k = symbols-lift_at 0 1 b in omega (arith, h, k))
  symbols-Step (app_function s) h = omega (arith, symbols-Step s (omega (arith, h)), h)
  symbols-Step (app_argument s) h = omega (arith, symbols-Step s (omega (arith, h)), h)
  symbols-Step (lam_domain s) h = omega (arith, symbols-Step s (omega (arith, h)), h)
  symbols-Step (lam_body s) h = omega (arith, symbols-Step s (omega (arith, h)), h)
  symbols-Step (pi_domain s) h = omega (arith, symbols-Step s (omega (arith, h)), h)
  symbols-Step (pi_body s) h = omega (arith, symbols-Step s (omega (arith, h)), h)

  symbols-Steps : {t u : Tree} → Steps m t u → symbols t ≤ length (signature ++ m) → symbols u ≤ length (signature ++ m)
  symbols-Steps done h = h
  symbols-Steps (next s k) h = symbols-Steps k (symbols-Step s h)

  -- a head step stays over the symbols of the module
  pub symbols-head_step : (t u : Tree) → head_step m t ≡ Some u → symbols t ≤ length (signature ++ m) → symbols u ≤ length (signature ++ m)
  symbols-head_step t u e h = symbols-Steps (head_step-Steps m t u e) h

-- a tree, and each tree of a context, is over the symbols of the module
abbrev pub IsTreeOver : List Declaration → Tree → Type 0
IsTreeOver m t = symbols t ≤ length (signature ++ m)

abbrev pub IsContextOver : List Declaration → List Tree → Type 0
IsContextOver m [] = Unit {0}
IsContextOver m (A ∷ G) = IsTreeOver m A × IsContextOver m G

-- each tree of a question is over the symbols of the module
pub data IsQuestionOver (m : List Declaration) : Question → Type 0 where
  over_infer : {G : List Tree} {t : Tree} → IsContextOver m G → IsTreeOver m t → IsQuestionOver m (Infer G t)
  over_reach : {F : Tree} → IsTreeOver m F → IsQuestionOver m (Reach F)
  over_meet : {G : List Tree} {E F : Tree} → IsContextOver m G → IsTreeOver m E → IsTreeOver m F → IsQuestionOver m (Meet G E F)
  over_convert : {E F : Tree} → IsTreeOver m E → IsTreeOver m F → IsQuestionOver m (Convert E F)

-- plans that ask the same of such trees, and find such trees
data Alike (m : List Declaration) : Plan → Plan → Type 0 where
  no_alike : Alike m (Say No) (Say No)
  found_alike : {t : Tree} → IsTreeOver m t → Alike m (Say (Found t)) (Say (Found t))
  ask_alike : {q : Question} {f g : Tree → Plan} → IsQuestionOver m q → ((t : Tree) → IsTreeOver m t → Alike m (f t) (g t)) → Alike m (Ask q f) (Ask q g)

module _ (m : List Declaration) where
  if_type-alike : (s : Tree) {p q : Plan} → Alike m p q → Alike m (if_type s p) (if_type s q)
  if_type-alike SortType h = h
  if_type-alike SortKind h = no_alike
  if_type-alike (Var n) h = no_alike
  if_type-alike (Sym k) h = no_alike
  if_type-alike (App f x) h = no_alike
  if_type-alike (Lam a b) h = no_alike
  if_type-alike (Pi a b) h = no_alike

  if_sort-alike : (s : Tree) {p q : Plan} → Alike m p q → Alike m (if_sort s p) (if_sort s q)
  if_sort-alike SortType h = h
  if_sort-alike SortKind h = h
  if_sort-alike (Var n) h = no_alike
  if_sort-alike (Sym k) h = no_alike
  if_sort-alike (App f x) h = no_alike
  if_sort-alike (Lam a b) h = no_alike
  if_sort-alike (Pi a b) h = no_alike

  unless_kind-alike : (s : Tree) {p q : Plan} → Alike m p q → Alike m (unless_kind s p) (unless_kind s q)
  unless_kind-alike SortType h = h
  unless_kind-alike SortKind h = no_alike
  unless_kind-alike (Var n) h = h
  unless_kind-alike (Sym k) h = h
  unless_kind-alike (App f x) h = h
  unless_kind-alike (Lam a b) h = h
  unless_kind-alike (Pi a b) h = h

  found_if-alike : (o u : Option Tree) → o ≡ u → ((t : Tree) → u ≡ Some t → IsTreeOver m t) → Alike m (found_if o) (found_if u)
  found_if-alike o u e h = subst (λ w. Alike m (found_if w) (found_if u)) (sym e) (go u h)
    where
      go : (u : Option Tree) → ((t : Tree) → u ≡ Some t → IsTreeOver m t) → Alike m (found_if u) (found_if u)
      go None h = no_alike
      go (Some t) h = found_alike (h t refl)

  recheck-alike : (r : Bool) (G : List Tree) (t : Tree) {p q : Plan} → IsContextOver m G → IsTreeOver m t → Alike m p q
      → Alike m (recheck r G t p) (recheck r G t q)
  recheck-alike true G t g h k = ask_alike (over_infer g h) (λ s l. if_sort-alike s k)
  recheck-alike false G t g h k = k

  -- what goes on with a product
  abbrev On : (Tree → Tree → Plan) → (Tree → Tree → Plan) → Type 0
  On f g = (A B : Tree) → IsTreeOver m A → IsTreeOver m B → Alike m (f A B) (g A B)

  if_product-alike : (F : Tree) {f g : Tree → Tree → Plan} → IsTreeOver m F → On f g → Alike m (if_product F f) (if_product F g)
  if_product-alike (Pi A B) h on = on A B (omega (arith, h)) (omega (arith, h))
  if_product-alike SortType h on = no_alike
  if_product-alike SortKind h on = no_alike
  if_product-alike (Var n) h on = no_alike
  if_product-alike (Sym s) h on = no_alike
  if_product-alike (App f x) h on = no_alike
  if_product-alike (Lam a b) h on = no_alike

  entry-over : (k : ℕ) (G : List Tree) (n : ℕ) → IsContextOver m G → (t : Tree) → option_map (lift k) (slice_get G n) ≡ Some t → IsTreeOver m t
  entry-over k [] n g t e = absurd (cc)
  entry-over k (A ∷ G) zero g t e = subst (IsTreeOver m) (same_Some _ _ e) (omega (arith, symbols-lift_at 0 k A, g.0))
  entry-over k (A ∷ G) (suc n) g t e = entry-over k G n g.1 t e

module _ (m : List Declaration) (own : IsSelfContained m) (more : List Declaration) (r : Bool) where
  -- the two head steps of a tree
  record Head (F : Tree) : Type 0 where
    step : Option Tree
    here : head_step m F ≡ step
    longer : head_step (m ++ more) F ≡ step
    over : (H : Tree) → step ≡ Some H → IsTreeOver m H

  head : (F : Tree) → IsTreeOver m F → Head F
  head F h = record { step = head_step m F; here = refl; longer = head_step-longer m more F h; over = λ H e. symbols-head_step m own F H e h }

  step-alike : (F : Tree) → IsTreeOver m F → (f g : Tree → Plan) → ((H : Tree) → IsTreeOver m H → Alike m (f H) (g H))
      → Alike m (if_step (head_step (m ++ more) F) f) (if_step (head_step m F) g)
  step-alike F h f g on = let k = head F h in subst (λ o. Alike m (if_step o f) (if_step (head_step m F) g)) (sym k.longer)
      (subst (λ o. Alike m (if_step k.step f) (if_step o g)) (sym k.here) (go k.step k.over))
    where
      go : (o : Option Tree) → ((H : Tree) → o ≡ Some H → IsTreeOver m H) → Alike m (if_step o f) (if_step o g)
      go None w = no_alike
      go (Some H) w = on H (w H refl)

  product-alike : (G : List Tree) (F : Tree) {f g : Tree → Tree → Plan} → IsContextOver m G → IsTreeOver m F → On m f g
      → Alike m (product_of (m ++ more) r G F f) (product_of m r G F g)
  product-alike G (Pi A B) c h on = on A B (omega (arith, h)) (omega (arith, h))
  product-alike G SortType c h on = no_alike
  product-alike G SortKind c h on = no_alike
  product-alike G (Var n) c h on = no_alike
  product-alike G (Sym s) c h on = step-alike (Sym s) h _ _ (λ H l. ask_alike (over_reach l) (λ P k. recheck-alike m r G P c k (if_product-alike m P k on)))
  product-alike G (App f x) c h on = step-alike (App f x) h _ _ (λ H l. ask_alike (over_reach l) (λ P k. recheck-alike m r G P c k (if_product-alike m P k on)))
  product-alike G (Lam a b) c h on = step-alike (Lam a b) h _ _ (λ H l. ask_alike (over_reach l) (λ P k. recheck-alike m r G P c k (if_product-alike m P k on)))

  infer-alike : (G : List Tree) (t : Tree) → IsContextOver m G → IsTreeOver m t → Alike m (infer (m ++ more) r G t) (infer m r G t)
  infer-alike G SortType c h = found_alike (omega arith)
  infer-alike G SortKind c h = no_alike
  infer-alike G (Var n) c h = found_if-alike m _ _ refl (entry-over m (suc n) G n c)
  infer-alike G (Sym s) c h = found_if-alike m _ _ (symbol_type-longer m more s (omega (arith, h))) (own.types s)
  infer-alike G (App f x) c h =
      ask_alike (over_infer c (omega (arith, h))) (λ F l. product-alike G F c l (λ A B hA hB.
      ask_alike (over_infer c (omega (arith, h)))
      (λ X k. ask_alike (over_meet c hA k) (λ u v. found_alike (symbols-put_at (length (signature ++ m)) 0 x B (omega (arith, h)) hB)))))
  infer-alike G (Lam a b) c h =
      let ha : IsTreeOver m a = omega (arith, h) in
      ask_alike (over_infer c ha)
      (λ s l. if_type-alike m s (ask_alike (over_infer (ha, c) (omega (arith, h))) (λ B k. unless_kind-alike m B (found_alike (omega (arith, h, k))))))
  infer-alike G (Pi a b) c h =
      let ha : IsTreeOver m a = omega (arith, h) in
      ask_alike (over_infer c ha) (λ s l. if_type-alike m s (ask_alike (over_infer (ha, c) (omega (arith, h))) (λ o k. if_sort-alike m o (found_alike k))))

  reach-alike : (F : Tree) → IsTreeOver m F → Alike m (reach (m ++ more) F) (reach m F)
  reach-alike (Pi A B) h = found_alike h
  reach-alike SortType h = no_alike
  reach-alike SortKind h = no_alike
  reach-alike (Var n) h = no_alike
  reach-alike (Sym s) h = step-alike (Sym s) h _ _ (λ H l. ask_alike (over_reach l) (λ P k. found_alike k))
  reach-alike (App f x) h = step-alike (App f x) h _ _ (λ H l. ask_alike (over_reach l) (λ P k. found_alike k))
  reach-alike (Lam a b) h = step-alike (Lam a b) h _ _ (λ H l. ask_alike (over_reach l) (λ P k. found_alike k))

  parts-alike : (E F : Tree) → IsTreeOver m E → IsTreeOver m F → Alike m (convert_parts E F) (convert_parts E F)
  parts-alike (App f x) (App g y) h k = ask_alike (over_convert (omega (arith, h)) (omega (arith, k)))
      (λ u l. ask_alike (over_convert (omega (arith, h)) (omega (arith, k))) (λ v n. found_alike h))
  parts-alike (Lam a b) (Lam c e) h k = ask_alike (over_convert (omega (arith, h)) (omega (arith, k)))
      (λ u l. ask_alike (over_convert (omega (arith, h)) (omega (arith, k))) (λ v n. found_alike h))
  parts-alike (Pi a b) (Pi c e) h k = ask_alike (over_convert (omega (arith, h)) (omega (arith, k)))
      (λ u l. ask_alike (over_convert (omega (arith, h)) (omega (arith, k))) (λ v n. found_alike h))
  parts-alike _ _ h k = no_alike

  by-alike : (E F : Tree) (o u : Option Tree) → ((H : Tree) → o ≡ Some H → IsTreeOver m H) → ((H : Tree) → u ≡ Some H → IsTreeOver m H) → IsTreeOver m E
      → IsTreeOver m F → Alike m (convert_by E F o u) (convert_by E F o u)
  by-alike E F (Some H) u e q h k = ask_alike (over_convert (e H refl) k) (λ v n. found_alike h)
  by-alike E F None (Some H) e q h k = ask_alike (over_convert h (q H refl)) (λ v n. found_alike h)
  by-alike E F None None e q h k = parts-alike E F h k

  convert-alike : (E F : Tree) → IsTreeOver m E → IsTreeOver m F → Alike m (convert (m ++ more) E F) (convert m E F)
  convert-alike E F h k = go (tree_eq E F)
    where
      same : Alike m (convert_by E F (head_step (m ++ more) E) (head_step (m ++ more) F)) (convert_by E F (head_step m E) (head_step m F))
      same =
          let e : head_step m E ≡ head_step (m ++ more) E = sym (head_step-longer m more E h) in
          let f : head_step m F ≡ head_step (m ++ more) F = sym (head_step-longer m more F k) in
          subst (λ o. Alike m (convert_by E F o (head_step (m ++ more) F)) (convert_by E F (head_step m E) (head_step m F))) e
          (subst (λ o. Alike m (convert_by E F (head_step m E) o) (convert_by E F (head_step m E) (head_step m F))) f
          (by-alike E F (head_step m E) (head_step m F) (λ H q. symbols-head_step m own E H q h) (λ H q. symbols-head_step m own F H q k) h k))

      go : (b : Bool)
          → Alike m (if b then Say (Found E) else convert_by E F (head_step (m ++ more) E) (head_step (m ++ more) F))
          (if b then Say (Found E) else convert_by E F (head_step m E) (head_step m F))
      go true = found_alike h
      go false = same

  plan-alike : (q : Question) → IsQuestionOver m q → Alike m (plan (m ++ more) r q) (plan m r q)
  plan-alike q (over_infer {G = G} {t = t} c h) = infer-alike G t c h
  plan-alike q (over_reach {F = F} h) = reach-alike F h
  plan-alike q (over_meet {G = G} {E = E} {F = F} c h k) = go (tree_eq E F)
    where
      go : (b : Bool) → Alike m (if b then Say (Found E) else recheck r G E (Ask (Convert E F) (λ _. Say (Found E))))
          (if b then Say (Found E) else recheck r G E (Ask (Convert E F) (λ _. Say (Found E))))
      go true = found_alike h
      go false = recheck-alike m r G E c h (ask_alike (over_convert h k) (λ u l. found_alike h))
  plan-alike q (over_convert {E = E} {F = F} h k) = convert-alike E F h k

  -- what is found is over the symbols of the module
  abbrev IsReplyOver : Reply → Type 0
  IsReplyOver (Found t) = IsTreeOver m t
  IsReplyOver No = Unit {0}

  ends-shorter : {p q : Plan} {reply : Reply} {n : ℕ} → Ends (m ++ more) r p reply n → Alike m p q → Ends m r q reply n × IsReplyOver reply
  ends-shorter said no_alike = (said, tt)
  ends-shorter said (found_alike h) = (said, h)
  ends-shorter (refused {q = q} h) (ask_alike a f) = let k = ends-shorter h (plan-alike q a) in (refused k.0, tt)
  ends-shorter (asked {q = q} {t = t} h g) (ask_alike a f) =
      let k = ends-shorter h (plan-alike q a) in
      let l = ends-shorter g (f t k.1) in
      (asked k.0 l.0, l.1)

  ends-longer : {q p : Plan} {reply : Reply} {n : ℕ} → Ends m r q reply n → Alike m p q → Ends (m ++ more) r p reply n × IsReplyOver reply
  ends-longer said no_alike = (said, tt)
  ends-longer said (found_alike h) = (said, h)
  ends-longer (refused {q = q} h) (ask_alike a f) = let k = ends-longer h (plan-alike q a) in (refused k.0, tt)
  ends-longer (asked {q = q} {t = t} h g) (ask_alike a f) =
      let k = ends-longer h (plan-alike q a) in
      let l = ends-longer g (f t k.1) in
      (asked k.0 l.0, l.1)

  ends-both : {p q : Plan} → Alike m p q → (reply : Reply) (n : ℕ) → Ends (m ++ more) r p reply n ↔ Ends m r q reply n
  ends-both a reply n = (λ h. (ends-shorter h a).0, λ h. (ends-longer h a).0)

  -- Earlier declarations alone: the type of a tree over the symbols of the module
  pub infer-longer : (G : List Tree) (t : Tree) → IsContextOver m G → IsTreeOver m t → (reply : Reply) (n : ℕ)
      → Ends (m ++ more) r (infer (m ++ more) r G t) reply n ↔ Ends m r (infer m r G t) reply n
  infer-longer G t c h = ends-both (infer-alike G t c h)

  -- the conversion of two such trees
  pub convert-longer : (E F : Tree) → IsTreeOver m E → IsTreeOver m F → (reply : Reply) (n : ℕ)
      → Ends (m ++ more) r (convert (m ++ more) E F) reply n ↔ Ends m r (convert m E F) reply n
  convert-longer E F h k = ends-both (convert-alike E F h k)

  -- any question of such trees
  pub plan-longer : (q : Question) → IsQuestionOver m q → (reply : Reply) (n : ℕ)
      → Ends (m ++ more) r (plan (m ++ more) r q) reply n ↔ Ends m r (plan m r q) reply n
  plan-longer q h = ends-both (plan-alike q h)

-- the body, where there is one, is over the symbols of the module
abbrev pub HasBodyTreeOver : List Declaration → Option Tree → Type 0
HasBodyTreeOver m None = Unit {0}
HasBodyTreeOver m (Some t) = IsTreeOver m t

-- the type and the body of a declaration are over the symbols of the module
pub record IsDeclarationOver (m : List Declaration) (d : Declaration) : Type 0 where
  pub ty : IsTreeOver m d.ty
  pub body : HasBodyTreeOver m d.body

-- the plan for a declaration over the module
declaration-alike : (m : List Declaration) (d : Declaration) → IsDeclarationOver m d → Alike m (declaration_plan d) (declaration_plan d)
declaration-alike m d h = ask_alike (over_infer tt h.ty) (λ s l. if_type-alike m s (body d.body h.body))
  where
    body : (b : Option Tree) → HasBodyTreeOver m b → Alike m (body_plan d.ty b) (body_plan d.ty b)
    body None k = found_alike h.ty
    body (Some t) k = ask_alike (over_infer tt k) (λ F l. ask_alike (over_convert h.ty l) (λ v n. found_alike h.ty))

-- The check of a declaration over the symbols of the module
pub declaration_plan-longer : (m : List Declaration) (own : IsSelfContained m) (more : List Declaration) (r : Bool) (d : Declaration) → IsDeclarationOver m d
    → (reply : Reply) (n : ℕ)
    → Ends (m ++ more) r (declaration_plan d) reply n ↔ Ends m r (declaration_plan d) reply n
declaration_plan-longer m own more r d h = ends-both m own more r (declaration-alike m d h)

-- a declaration's type, and what it stands for, are closed and over so many symbols
record IsSettled (count : ℕ) (d : Declaration) : Type 0 where
  closed : loose d.ty ≡ 0
  known : symbols d.ty ≤ count
  definition : (t : Tree) → definition_of d.form d.body ≡ Some t → (loose t ≡ 0) × (symbols t ≤ count)

IsSettled-more : (count most : ℕ) → count ≤ most → (d : Declaration) → IsSettled count d → IsSettled most d
IsSettled-more count most l d h = record
    { closed = h.closed; known = omega (arith, h.known, l); definition = λ t e. let k = h.definition t e in (k.0, omega (arith, k.1, l)) }

AreSettled-more : (count most : ℕ) → count ≤ most → (ds : List Declaration) → AllByRecursion (IsSettled count) ds → AllByRecursion (IsSettled most) ds
AreSettled-more count most l [] h = tt
AreSettled-more count most l (d ∷ ds) h = (IsSettled-more count most l d h.0, AreSettled-more count most l ds h.1)

AreSettled-append : (count : ℕ) (ds es : List Declaration) → AllByRecursion (IsSettled count) ds → AllByRecursion (IsSettled count) es
    → AllByRecursion (IsSettled count) (ds ++ es)
AreSettled-append count [] es h k = k
AreSettled-append count (d ∷ ds) es h k = (h.0, AreSettled-append count ds es h.1 k)

definition-settled : (count : ℕ) (f : Form) (body : Option Tree) → IsBodyOver count f body → (t : Tree) → definition_of f body ≡ Some t
    → (loose t ≡ 0) × (symbols t ≤ count)
definition-settled count Symbol body h t e = absurd (cc)
definition-settled count Def None h t e = absurd (cc)
definition-settled count Def (Some u) h t e = subst (λ w. (loose w ≡ 0) × (symbols w ≤ count)) (same_Some _ _ e) (h.closed, h.known)
definition-settled count Thm body h t e = absurd (cc)

follows-settled : (before : List Declaration) (d : Declaration) → MayFollow before d → IsSettled (length before) d
follows-settled before d h = record { closed = h.ty.closed; known = h.ty.known; definition = definition-settled (length before) d.form d.body h.body }

declared-settled : (before ds : List Declaration) → AllByRecursion (IsSettled (length before)) before → AreDeclared before ds
    → AllByRecursion (IsSettled (length (before ++ ds))) (before ++ ds)
declared-settled before [] h a = subst (λ l. AllByRecursion (IsSettled (length l)) l) (sym (append-nil before)) h
declared-settled before (d ∷ ds) h a =
    let more : length before ≤ length (before ++ d ∷ []) = omega (arith, length-append before (d ∷ [])) in
    let both = AreSettled-append (length before) before (d ∷ []) h (follows-settled before d a.0, tt) in
    subst (λ l. AllByRecursion (IsSettled (length l)) l) (append_assoc before (d ∷ []) ds)
    (declared-settled (before ++ d ∷ []) ds (AreSettled-more (length before) (length (before ++ d ∷ [])) more (before ++ d ∷ []) both) a.1)

-- the signature is settled
settled : (name : List ℕ) (A : Tree) → loose A ≡ 0 → symbols A ≤ length signature → IsSettled (length signature) (symbol name A)
settled name A c k = record { closed = c; known = k; definition = λ t e. absurd (cc) }

signature-settled : AllByRecursion (IsSettled (length signature)) signature
signature-settled = (
  settled _ _ refl (omega arith),
  (
    settled _ _ refl (omega arith),
    (
      settled _ _ refl (omega arith),
      (
        settled _ _ refl (omega arith),
        (
          settled _ _ refl (omega arith),
          (
            settled _ _ refl (omega arith),
            (
              settled _ _ refl (omega arith),
              (
                settled _ _ refl (omega arith),
                (
                  settled _ _ refl (omega arith),
                  (
                    settled _ _ refl (omega arith),
                    (
                      settled _ _ refl (omega arith),
                      (
                        settled _ _ refl (omega arith),
                        (
                          settled _ _ refl (omega arith),
                          (
                            settled _ _ refl (omega arith),
                            (
                              settled _ _ refl (omega arith),
                              (settled _ _ refl (omega arith), (settled _ _ refl (omega arith), (settled _ _ refl (omega arith), tt))),
                            ),
                          ),
                        ),
                      ),
                    ),
                  ),
                ),
              ),
            ),
          ),
        ),
      ),
    ),
  ),
)

-- a module is over its own symbols
pub IsModule-IsSelfContained : (m : List Declaration) → IsModule m → IsSelfContained m
IsModule-IsSelfContained m a = record {
  closed = record { types = λ s A e. (type s A e).0; definitions = λ s t e. (definition s t e).0 };
  types = λ s A e. (type s A e).1;
  definitions = λ s t e. (definition s t e).1;
}
  where
    each : (s : ℕ) (d : Declaration) → symbol_declaration m s ≡ Some d → IsSettled (length (signature ++ m)) d
    each s d e = AllByRecursion-slice_get (IsSettled (length (signature ++ m))) (signature ++ m) (declared-settled signature m signature-settled a) s d e

    type : (s : ℕ) (A : Tree) → symbol_type m s ≡ Some A → (loose A ≡ 0) × (symbols A ≤ length (signature ++ m))
    type s A e =
        let h = option_map-some (λ (d : Declaration). d.ty) (symbol_declaration m s) A e in
        let k = each s h.0 h.1 in
        subst (λ w. (loose w ≡ 0) × (symbols w ≤ length (signature ++ m))) h.2 (k.closed, k.known)

    definition : (s : ℕ) (t : Tree) → symbol_definition m s ≡ Some t → (loose t ≡ 0) × (symbols t ≤ length (signature ++ m))
    definition s t e =
        let h = option_and_then-some (λ (d : Declaration). definition_of d.form d.body) (symbol_declaration m s) t e in
        (each s h.0 h.1).definition t h.2

-- the declarations before one make a module, and it may follow them
AreDeclared-take : (before ds : List Declaration) (i : ℕ) → AreDeclared before ds → AreDeclared before (take i ds)
AreDeclared-take before ds zero a = tt
AreDeclared-take before [] (suc i) a = tt
AreDeclared-take before (d ∷ ds) (suc i) a = (a.0, AreDeclared-take (before ++ d ∷ []) ds i a.1)

pub MayFollow-at : (before ds : List Declaration) (i : ℕ) (d : Declaration) → AreDeclared before ds → slice_get ds i ≡ Some d
    → MayFollow (before ++ take i ds) d
MayFollow-at before [] i d a e = absurd (cc)
MayFollow-at before (x ∷ xs) zero d a e = subst₂ MayFollow (sym (append-nil before)) (same_Some _ _ e) a.0
MayFollow-at before (x ∷ xs) (suc i) d a e = subst (λ l. MayFollow l d) (append_assoc before (x ∷ []) (take i xs))
    (MayFollow-at (before ++ x ∷ []) xs i d a.1 e)

body-over : (m : List Declaration) (f : Form) (body : Option Tree) → IsBodyOver (length (signature ++ m)) f body → HasBodyTreeOver m body
body-over m f None h = tt
body-over m Symbol (Some t) h = absurd (cc)
body-over m Def (Some t) h = h.known
body-over m Thm (Some t) h = h.known

-- the first declarations of a module make one
pub IsModule-take : (m : List Declaration) (count : ℕ) → IsModule m → IsModule (take count m)
IsModule-take m count a = AreDeclared-take signature m count a

-- The check of a declaration of a module, over those before it, is its check over the whole module.
pub declaration_plan-whole : (m : List Declaration) → IsModule m → (i : ℕ) (d : Declaration) → slice_get m i ≡ Some d → (r : Bool) (reply : Reply) (n : ℕ)
    → Ends m r (declaration_plan d) reply n ↔ Ends (take i m) r (declaration_plan d) reply n
declaration_plan-whole m a i d e r reply n =
    let f = MayFollow-at signature m i d a e in
    let over : IsDeclarationOver (take i m) d = record { ty = f.ty.known; body = body-over (take i m) d.form d.body f.body } in
    subst (λ l. Ends l r (declaration_plan d) reply n ↔ Ends (take i m) r (declaration_plan d) reply n) (take-append-drop i m)
    (declaration_plan-longer (take i m) (IsModule-IsSelfContained (take i m) (AreDeclared-take signature m i a)) (drop i m) r d over reply n)
