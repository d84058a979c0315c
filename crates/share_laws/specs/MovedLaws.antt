-- A tree whose symbols have other numbers is lifted, put in and measured as the tree is.
use Rattle.std.proofs.Common.{◌≡◌, ◌<◌, ◌≤◌, ℕ, zero, suc, ◌+◌, ◌-◌, refl, sym, ap, ◌∙◌, Bool, true, false, List, [], ◌∷◌, ◌++◌, length, reverse, map, Option, Some, None, arith}
use Rattle.std.proofs.lemmas.Grind.{common_steps}
use Rattle.std.specs.Prelude.{nat_eq, nat_lt, if◌then◌else◌, slice_get, option_map, option_and_then, max}
use Rattle.std.specs.Option.{option_map_or}
use Rattle.std.proofs.Math.Path.{fun_ext, ap₂}
use Rattle.std.proofs.lemmas.Bool.{lt-ltb, le-ltb}
use Rattle.std.proofs.lemmas.List.{length-map, map-append, reverse-append}
use Rattle.std.proofs.lemmas.Option.{slice_get-map}
use Rattle.lp_spec.specs.Trees.{Tree, SortType, SortKind, Var, Sym, App, Lam, Pi, lift, put_var, put_at, put, put_all_var, put_all, size, depth}
use Rattle.lp_spec.specs.Substitution.{up, ren, ups, sub}
use Rattle.lp_spec.specs.Modules.{Declaration, signature, applied, products, abstractions, symbol_declaration, symbol_name, symbol_type}
use Rattle.lp_spec.specs.Conversion.{definition_of, symbol_definition}
use Rattle.lp_spec.specs.declared.form.Form.{Form}
use Rattle.lp_spec.specs.declared.form.Form.TheVariants.{Symbol, Def, Thm}
use Rattle.lp_binding_laws.specs.Composition.{lift_is, put_at_is, put_all_at_is}
use Rattle.share_spec.specs.MovedTrees.{moved_symbol, moved, moved_declaration}

-- a list from its end, with something for each item
map-reverse : {X Y : Type 0} (f : X → Y) (xs : List X) → map f (reverse xs) ≡ reverse (map f xs)
map-reverse f [] = refl
map-reverse f (x ∷ xs) =
    ap (map f) (reverse-append (x ∷ []) xs) ∙ map-append f (reverse xs) (x ∷ []) ∙ ap (λ l. l ++ f x ∷ []) (map-reverse f xs)
    ∙ sym (reverse-append (f x ∷ []) (map f xs))

module _ (g : ℕ → ℕ) where
  pub moved-ren : (r : ℕ → ℕ) (t : Tree) → moved g (ren r t) ≡ ren r (moved g t)
  moved-ren r SortType = refl
  moved-ren r SortKind = refl
  moved-ren r (Var n) = refl
  moved-ren r (Sym s) = refl
  moved-ren r (App f x) = ap₂ App (moved-ren r f) (moved-ren r x)
  moved-ren r (Lam a b) = ap₂ Lam (moved-ren r a) (moved-ren (up r) b)
  moved-ren r (Pi a b) = ap₂ Pi (moved-ren r a) (moved-ren (up r) b)

  moved-ups : (s : ℕ → Tree) (n : ℕ) → moved g (ups s n) ≡ ups (λ k. moved g (s k)) n
  moved-ups s zero = refl
  moved-ups s (suc n) = moved-ren suc (s n)

  pub moved-sub : (s : ℕ → Tree) (t : Tree) → moved g (sub s t) ≡ sub (λ n. moved g (s n)) (moved g t)
  moved-sub s SortType = refl
  moved-sub s SortKind = refl
  moved-sub s (Var n) = refl
  moved-sub s (Sym x) = refl
  moved-sub s (App f x) = ap₂ App (moved-sub s f) (moved-sub s x)
  moved-sub s (Lam a b) = ap₂ Lam (moved-sub s a) (moved-sub (ups s) b ∙ ap (λ w. sub w (moved g b)) (fun_ext (moved-ups s)))
  moved-sub s (Pi a b) = ap₂ Pi (moved-sub s a) (moved-sub (ups s) b ∙ ap (λ w. sub w (moved g b)) (fun_ext (moved-ups s)))

  pub moved-lift : (k : ℕ) (t : Tree) → moved g (lift k t) ≡ lift k (moved g t)
  moved-lift k t = ap (moved g) (lift_is k t) ∙ moved-ren (λ n. n + k) t ∙ sym (lift_is k (moved g t))

  moved-if : (b : Bool) (t u : Tree) → moved g (if b then t else u) ≡ (if b then moved g t else moved g u)
  moved-if true t u = refl
  moved-if false t u = refl

  moved-put_var : (d : ℕ) (a : Tree) (n : ℕ) → moved g (put_var d a n) ≡ put_var d (moved g a) n
  moved-put_var d a n = go (nat_lt n d) (nat_eq n d)
    where
      go : (b c : Bool)
          → moved g (if b then Var n else if c then lift d a else Var (n - 1)) ≡ (if b then Var n else if c then lift d (moved g a) else Var (n - 1))
      go true c = refl
      go false true = moved-lift d a
      go false false = refl

  pub moved-put_at : (d : ℕ) (a t : Tree) → moved g (put_at d a t) ≡ put_at d (moved g a) (moved g t)
  moved-put_at d a t = ap (moved g) (put_at_is d a t) ∙ moved-sub (put_var d a) t ∙ ap (λ w. sub w (moved g t)) (fun_ext (moved-put_var d a)) ∙ sym
      (put_at_is d (moved g a) (moved g t))

  pub moved-put : (a t : Tree) → moved g (put a t) ≡ put (moved g a) (moved g t)
  moved-put a t = moved-put_at 0 a t

  moved-put_all_var : (d : ℕ) (us : List Tree) (n : ℕ) → moved g (put_all_var d us n) ≡ put_all_var d (map (moved g) us) n
  moved-put_all_var d us n = go (nat_lt n d)
    where
      in_it : (o : Option Tree)
          → moved g (option_map_or (lift d) o (Var (n - length us))) ≡ option_map_or (lift d) (option_map (moved g) o) (Var (n - length us))
      in_it None = refl
      in_it (Some t) = moved-lift d t

      go : (b : Bool)
          → moved g (if b then Var n else option_map_or (lift d) (slice_get (reverse us) (n - d)) (Var (n - length us)))
          ≡ (if b then Var n else option_map_or (lift d) (slice_get (reverse (map (moved g) us)) (n - d)) (Var (n - length (map (moved g) us))))
      go true = refl
      go false =
          in_it (slice_get (reverse us) (n - d))
          ∙ ap (λ o. option_map_or (lift d) o (Var (n - length us)))
          (sym (slice_get-map (moved g) (reverse us) (n - d)) ∙ ap (λ l. slice_get l (n - d)) (map-reverse (moved g) us))
          ∙ ap (λ l. option_map_or (lift d) (slice_get (reverse (map (moved g) us)) (n - d)) (Var (n - l))) (sym (length-map us (moved g)))

  pub moved-put_all : (us : List Tree) (t : Tree) → moved g (put_all us t) ≡ put_all (map (moved g) us) (moved g t)
  moved-put_all us t =
      ap (moved g) (put_all_at_is 0 us t) ∙ moved-sub (put_all_var 0 us) t ∙ ap (λ w. sub w (moved g t)) (fun_ext (moved-put_all_var 0 us))
      ∙ sym (put_all_at_is 0 (map (moved g) us) (moved g t))

  pub moved-applied : (f : Tree) (xs : List Tree) → moved g (applied f xs) ≡ applied (moved g f) (map (moved g) xs)
  moved-applied f [] = refl
  moved-applied f (x ∷ xs) = moved-applied (App f x) xs

  pub moved-products : (ds : List Tree) (t : Tree) → moved g (products ds t) ≡ products (map (moved g) ds) (moved g t)
  moved-products [] t = refl
  moved-products (d ∷ ds) t = ap (Pi (moved g d)) (moved-products ds t)

  pub moved-abstractions : (ds : List Tree) (t : Tree) → moved g (abstractions ds t) ≡ abstractions (map (moved g) ds) (moved g t)
  moved-abstractions [] t = refl
  moved-abstractions (d ∷ ds) t = ap (Lam (moved g d)) (moved-abstractions ds t)

  pub size-moved : (t : Tree) → size (moved g t) ≡ size t
  size-moved SortType = refl
  size-moved SortKind = refl
  size-moved (Var n) = refl
  size-moved (Sym s) = refl
  size-moved (App f x) = ap₂ (λ a b. 1 + a + b) (size-moved f) (size-moved x)
  size-moved (Lam a b) = ap₂ (λ m n. 1 + m + n) (size-moved a) (size-moved b)
  size-moved (Pi a b) = ap₂ (λ m n. 1 + m + n) (size-moved a) (size-moved b)

  pub depth-moved : (t : Tree) → depth (moved g t) ≡ depth t
  depth-moved SortType = refl
  depth-moved SortKind = refl
  depth-moved (Var n) = refl
  depth-moved (Sym s) = refl
  depth-moved (App f x) = ap₂ (λ a b. 1 + max a b) (depth-moved f) (depth-moved x)
  depth-moved (Lam a b) = ap₂ (λ a b. 1 + max a b) (depth-moved a) (depth-moved b)
  depth-moved (Pi a b) = ap₂ (λ a b. 1 + max a b) (depth-moved a) (depth-moved b)

  -- the signature's symbols stay, and the others stay others
  pub moved_symbol-low : (s : ℕ) → s < length signature → moved_symbol g s ≡ s
  moved_symbol-low s h = ap (λ (b : Bool). if b then s else length signature + g (s - length signature)) (lt-ltb s (length signature) h)

  pub moved_symbol-high : (i : ℕ) → moved_symbol g (length signature + i) ≡ length signature + g i
  moved_symbol-high i =
      let e : length signature + i - length signature ≡ i = omega arith in
      ap (λ (b : Bool). if b then length signature + i else length signature + g (length signature + i - length signature))
      (le-ltb (length signature + i) (length signature) (omega arith))
      ∙ ap (λ j. length signature + g j) e

  -- what is a symbol of the signature was it before
  pub moved_symbol-is_low : (s k : ℕ) → k < length signature → moved_symbol g s ≡ k → s ≡ k
  moved_symbol-is_low s k h e = go (nat_lt s (length signature)) refl e
    where
      go : (b : Bool) → nat_lt s (length signature) ≡ b → (if b then s else length signature + g (s - length signature)) ≡ k → s ≡ k
      go true i j = j
      go false i j = absurd (omega (arith, h, j))

  -- The second module has what the first has, each declaration at its place
  pub record IsMoved (m n : List Declaration) : Type 0 where
    pub each : (i : ℕ) → slice_get n (g i) ≡ option_map (moved_declaration g) (slice_get m i)

  signature-moved : (s : ℕ) → s < length signature → option_map (moved_declaration g) (slice_get signature s) ≡ slice_get signature s
  signature-moved zero h = refl
  signature-moved (suc zero) h = refl
  signature-moved (suc (suc zero)) h = refl
  signature-moved (suc (suc (suc zero))) h = refl
  signature-moved (suc (suc (suc (suc zero)))) h = refl
  signature-moved (suc (suc (suc (suc (suc zero))))) h = refl
  signature-moved (suc (suc (suc (suc (suc (suc zero)))))) h = refl
  signature-moved (suc (suc (suc (suc (suc (suc (suc zero))))))) h = refl
  signature-moved (suc (suc (suc (suc (suc (suc (suc (suc zero)))))))) h = refl
  signature-moved (suc (suc (suc (suc (suc (suc (suc (suc (suc zero))))))))) h = refl
  signature-moved (suc (suc (suc (suc (suc (suc (suc (suc (suc (suc zero)))))))))) h = refl
  signature-moved (suc (suc (suc (suc (suc (suc (suc (suc (suc (suc (suc zero))))))))))) h = refl
  signature-moved (suc (suc (suc (suc (suc (suc (suc (suc (suc (suc (suc (suc zero)))))))))))) h = refl
  signature-moved (suc (suc (suc (suc (suc (suc (suc (suc (suc (suc (suc (suc (suc zero))))))))))))) h = refl
  signature-moved (suc (suc (suc (suc (suc (suc (suc (suc (suc (suc (suc (suc (suc (suc zero)))))))))))))) h = refl
  signature-moved (suc (suc (suc (suc (suc (suc (suc (suc (suc (suc (suc (suc (suc (suc (suc zero))))))))))))))) h = refl
  signature-moved (suc (suc (suc (suc (suc (suc (suc (suc (suc (suc (suc (suc (suc (suc (suc (suc zero)))))))))))))))) h = refl
  signature-moved (suc (suc (suc (suc (suc (suc (suc (suc (suc (suc (suc (suc (suc (suc (suc (suc (suc zero))))))))))))))))) h = refl
  signature-moved (suc (suc (suc (suc (suc (suc (suc (suc (suc (suc (suc (suc (suc (suc (suc (suc (suc (suc s)))))))))))))))))) h = absurd (omega (arith, h))

slice_get-front : {X : Type 0} (xs ys : List X) (i : ℕ) → i < length xs → slice_get (xs ++ ys) i ≡ slice_get xs i
slice_get-front [] ys i h = absurd (omega arith)
slice_get-front (x ∷ xs) ys zero h = refl
slice_get-front (x ∷ xs) ys (suc i) h = slice_get-front xs ys i (omega (arith, h))

pub slice_get-back : {X : Type 0} (xs ys : List X) (i : ℕ) → slice_get (xs ++ ys) (length xs + i) ≡ slice_get ys i
slice_get-back [] ys i = let e : 0 + i ≡ i = omega arith in ap (slice_get ys) e
slice_get-back (x ∷ xs) ys i = let e : length (x ∷ xs) + i ≡ suc (length xs + i) = omega arith in ap (slice_get (x ∷ xs ++ ys)) e ∙ slice_get-back xs ys i

module _ (g : ℕ → ℕ) (m n : List Declaration) (h : IsMoved g m n) where
  -- Each symbol has its declaration
  pub moved-symbol_declaration : (s : ℕ) → symbol_declaration n (moved_symbol g s) ≡ option_map (moved_declaration g) (symbol_declaration m s)
  moved-symbol_declaration s = go (nat_lt s (length signature)) refl
    where
      go : (b : Bool) → nat_lt s (length signature) ≡ b → symbol_declaration n (moved_symbol g s) ≡ option_map (moved_declaration g) (symbol_declaration m s)
      go true e =
          let low : s < length signature = grind (arith, common_steps, e) in
          ap (symbol_declaration n) (moved_symbol-low g s low) ∙ slice_get-front signature n s low ∙ sym (signature-moved g s low)
          ∙ ap (option_map (moved_declaration g)) (sym (slice_get-front signature m s low))
      go false e =
          let high : length signature ≤ s = grind (arith, common_steps, e) in
          let is : s ≡ length signature + (s - length signature) = omega (arith, high) in
          ap (λ k. symbol_declaration n (moved_symbol g k)) is ∙ ap (symbol_declaration n) (moved_symbol-high g (s - length signature))
          ∙ slice_get-back signature n (g (s - length signature)) ∙ h.each (s - length signature)
          ∙ ap (option_map (moved_declaration g)) (sym (slice_get-back signature m (s - length signature)) ∙ ap (symbol_declaration m) (sym is))

  pub moved-symbol_type : (s : ℕ) → symbol_type n (moved_symbol g s) ≡ option_map (moved g) (symbol_type m s)
  moved-symbol_type s = ap (option_map (λ (d : Declaration). d.ty)) (moved-symbol_declaration s) ∙ both (symbol_declaration m s)
    where
      both : (o : Option Declaration) → option_map (λ (d : Declaration). d.ty) (option_map (moved_declaration g) o)
          ≡ option_map (moved g) (option_map (λ (d : Declaration). d.ty) o)
      both None = refl
      both (Some d) = refl

  pub moved-symbol_definition : (s : ℕ) → symbol_definition n (moved_symbol g s) ≡ option_map (moved g) (symbol_definition m s)
  moved-symbol_definition s = ap (option_and_then (λ (d : Declaration). definition_of d.form d.body)) (moved-symbol_declaration s) ∙ both
      (symbol_declaration m s)
    where
      by_form : (f : Form) (body : Option Tree) → definition_of f (option_map (moved g) body) ≡ option_map (moved g) (definition_of f body)
      by_form Symbol body = refl
      by_form Def body = refl
      by_form Thm body = refl

      both : (o : Option Declaration) → option_and_then (λ (d : Declaration). definition_of d.form d.body) (option_map (moved_declaration g) o)
          ≡ option_map (moved g) (option_and_then (λ (d : Declaration). definition_of d.form d.body) o)
      both None = refl
      both (Some d) = by_form d.form d.body

  pub moved-symbol_name : (s : ℕ) → symbol_name n (moved_symbol g s) ≡ symbol_name m s
  moved-symbol_name s = ap (λ o. option_map_or (λ (d : Declaration). d.name) o []) (moved-symbol_declaration s) ∙ both (symbol_declaration m s)
    where
      both : (o : Option Declaration) → option_map_or (λ (d : Declaration). d.name) (option_map (moved_declaration g) o) []
          ≡ option_map_or (λ (d : Declaration). d.name) o []
      both None = refl
      both (Some d) = refl
