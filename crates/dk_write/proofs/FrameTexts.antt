-- What a turn writes, and what it leaves.
use Rattle.std.proofs.Common.{◌≡◌, ℕ, suc, ◌-◌, Bool, true, false, not, refl, sym, ap, ◌∙◌, arith, List, [], ◌∷◌, ◌++◌, append_assoc, codes, if◌then◌else◌}
use Rattle.std.proofs.lemmas.List.{append-nil}
use Rattle.lp_spec.specs.Modules.{symbol_name}
use Rattle.lp_spec.specs.Text.{binder_name, enclosed, is_binder, is_word, tree_text}
use Rattle.lp_term.specs.declared.LpId.{LpId}
use Rattle.lp_term.specs.declared.LpNode.{LpNode}
use Rattle.lp_term.specs.declared.LpNode.TheVariants as node
use Rattle.holide_sig.specs.declared.module.Module.{Module}
use Rattle.holide_sig.specs.Modules.{declarations_of}
use Rattle.dk_write.specs.declared.path.Place.{Place}
use Rattle.dk_write.specs.declared.path.Frame.{Frame}
use Rattle.dk_write.specs.declared.path.Frame.TheVariants.{Close, Argument, Abstracted, Produced}
use Rattle.dk_write.specs.Nodes.{written_tree, tree_written}
use Rattle.dk_write.specs.Paths.{place_text, frame_text, frames_text}

abbrev pub opened : Bool → List ℕ
opened b = if b then codes "(" else []

abbrev pub closed : Bool → List ℕ
closed b = if b then codes ")" else []

enclosed_is : (b : Bool) (t : List ℕ) → enclosed b t ≡ opened b ++ (t ++ closed b)
enclosed_is true t = refl
enclosed_is false t = sym (append-nil t)

apart_application : (o f c s x r : List ℕ) → (((o ++ (f ++ c)) ++ s) ++ x) ++ r ≡ o ++ (f ++ ((c ++ (s ++ x)) ++ r))
apart_application o f c s x r = simp append_assoc

apart_binder : (n k o f c a x r : List ℕ) → ((((n ++ k) ++ (o ++ (f ++ c))) ++ a) ++ x) ++ r ≡ (n ++ (k ++ o)) ++ (f ++ ((c ++ (a ++ x)) ++ r))
apart_binder n k o f c a x r = simp append_assoc

module _ (m : Module) (n : ℕ) (fs : List Frame) where
  pub argument_parts : (p : Place) (closes opens : Bool) (w : List ℕ) (gs : List Frame) → w ≡ closed closes ++ (codes " " ++ opened opens) → opens
      ≡ not (is_word (written_tree m n p.id)) → (if opens then Close ∷ fs else fs) ≡ gs
      → frame_text m n (Argument p closes) ++ frames_text m n fs ≡ w ++ (place_text m n p ++ frames_text m n gs)
  argument_parts p closes opens w gs e g h =
      ap (λ b. (closed closes ++ (codes " " ++ enclosed b (place_text m n p))) ++ frames_text m n fs) (sym g)
      ∙ by opens
      ∙ sym (ap (λ l. l ++ (place_text m n p ++ frames_text m n (if opens then Close ∷ fs else fs))) e)
      ∙ ap (λ l. w ++ (place_text m n p ++ frames_text m n l)) h
    where
      by : (b : Bool) → (closed closes ++ (codes " " ++ enclosed b (place_text m n p))) ++ frames_text m n fs
          ≡ (closed closes ++ (codes " " ++ opened b)) ++ (place_text m n p ++ frames_text m n (if b then Close ∷ fs else fs))
      by true = simp append_assoc
      by false = simp append_assoc

  pub abstracted_parts : (p : Place) (closes : Bool) (w : List ℕ) → w ≡ closed closes ++ codes " => "
      → frame_text m n (Abstracted p closes) ++ frames_text m n fs ≡ w ++ (place_text m n p ++ frames_text m n fs)
  abstracted_parts p closes w e =
      let parts : (closed closes ++ (codes " => " ++ place_text m n p)) ++ frames_text m n fs ≡ (closed closes ++ codes " => ")
      ++ (place_text m n p ++ frames_text m n fs) = simp append_assoc in
      parts ∙ ap (λ l. l ++ (place_text m n p ++ frames_text m n fs)) (sym e)

  pub produced_parts : (p : Place) (closes : Bool) (w : List ℕ) → w ≡ closed closes ++ codes " -> "
      → frame_text m n (Produced p closes) ++ frames_text m n fs ≡ w ++ (place_text m n p ++ frames_text m n fs)
  produced_parts p closes w e =
      let parts : (closed closes ++ (codes " -> " ++ place_text m n p)) ++ frames_text m n fs ≡ (closed closes ++ codes " -> ")
      ++ (place_text m n p ++ frames_text m n fs) = simp append_assoc in
      parts ∙ ap (λ l. l ++ (place_text m n p ++ frames_text m n fs)) (sym e)

  -- a place is written by the node of its tree
  text_at : (p : Place) (v w : LpNode) → written_tree m n p.id ≡ tree_written m n v → v ≡ w → place_text m n p
      ≡ tree_text (declarations_of m) p.depth (tree_written m n w)
  text_at p v w t e = ap (tree_text (declarations_of m) p.depth) (t ∙ ap (tree_written m n) e)

  pub sort_parts : (p : Place) (v : LpNode) → written_tree m n p.id ≡ tree_written m n v → v ≡ node.SortType
      → place_text m n p ++ frames_text m n fs ≡ codes "Type" ++ frames_text m n fs
  sort_parts p v t i = ap (λ l. l ++ frames_text m n fs) (text_at p v node.SortType t i)

  pub variable_parts : (p : Place) (v : LpNode) (i b : ℕ) → written_tree m n p.id ≡ tree_written m n v → v ≡ node.Var i → b ≡ p.depth - i - 1
      → place_text m n p ++ frames_text m n fs ≡ binder_name b ++ frames_text m n fs
  variable_parts p v i b t e f =
      let less : b ≡ p.depth - suc i = omega (arith, f) in
      ap (λ l. l ++ frames_text m n fs) (text_at p v (node.Var i) t e ∙ ap binder_name (sym less))

  pub symbol_parts : (p : Place) (v : LpNode) (s : ℕ) (w : List ℕ) → written_tree m n p.id ≡ tree_written m n v → v ≡ node.Sym s → w
      ≡ symbol_name (declarations_of m) s
      → place_text m n p ++ frames_text m n fs ≡ w ++ frames_text m n fs
  symbol_parts p v s w t i e = ap (λ l. l ++ frames_text m n fs) (text_at p v (node.Sym s) t i ∙ sym e)

  pub application_parts : (p : Place) (v : LpNode) (f x : LpId) (closes : Bool) (w : List ℕ) → written_tree m n p.id ≡ tree_written m n v
      → v ≡ node.App f x → closes ≡ is_binder (written_tree m n f) → w ≡ opened closes
      → place_text m n p ++ frames_text m n fs
      ≡ w ++ (place_text m n (record { id = f; depth = p.depth })
      ++ (frame_text m n (Argument (record { id = x; depth = p.depth }) closes) ++ frames_text m n fs))
  application_parts p v f x closes w t i g e =
      let function = place_text m n (record { id = f; depth = p.depth }) in
      let argument = enclosed (not (is_word (written_tree m n x))) (place_text m n (record { id = x; depth = p.depth })) in
      ap (λ l. l ++ frames_text m n fs) (text_at p v (node.App f x) t i)
      ∙ ap (λ l. (l ++ codes " " ++ argument) ++ frames_text m n fs) (ap (λ b. enclosed b function) (sym g) ∙ enclosed_is closes function)
      ∙ apart_application (opened closes) function (closed closes) (codes " ") argument (frames_text m n fs)
      ∙ ap (λ l. l ++ (function ++ ((closed closes ++ (codes " " ++ argument)) ++ frames_text m n fs))) (sym e)

  pub abstraction_parts : (p : Place) (v : LpNode) (a b : LpId) (d : ℕ) (closes : Bool) → written_tree m n p.id ≡ tree_written m n v
      → v ≡ node.Lam a b → closes ≡ is_binder (written_tree m n a) → d ≡ suc p.depth
      → place_text m n p ++ frames_text m n fs
      ≡ (binder_name p.depth ++ (codes " : " ++ opened closes))
      ++ (place_text m n (record { id = a; depth = p.depth }) ++ (frame_text m n (Abstracted (record { id = b; depth = d }) closes) ++ frames_text m n fs))
  abstraction_parts p v a b d closes t i g e =
      let domain = place_text m n (record { id = a; depth = p.depth }) in
      let under = λ (k : ℕ). place_text m n (record { id = b; depth = k }) in
      ap (λ l. l ++ frames_text m n fs) (text_at p v (node.Lam a b) t i)
      ∙ ap (λ l. (binder_name p.depth ++ codes " : " ++ l ++ codes " => " ++ under (suc p.depth)) ++ frames_text m n fs)
      (ap (λ o. enclosed o domain) (sym g) ∙ enclosed_is closes domain)
      ∙ ap (λ k. (binder_name p.depth ++ codes " : " ++ (opened closes ++ (domain ++ closed closes)) ++ codes " => " ++ under k) ++ frames_text m n fs) (sym e)
      ∙ apart_binder (binder_name p.depth) (codes " : ") (opened closes) domain (closed closes) (codes " => ") (under d) (frames_text m n fs)

  pub product_parts : (p : Place) (v : LpNode) (a b : LpId) (d : ℕ) (closes : Bool) → written_tree m n p.id ≡ tree_written m n v
      → v ≡ node.Pi a b → closes ≡ is_binder (written_tree m n a) → d ≡ suc p.depth
      → place_text m n p ++ frames_text m n fs
      ≡ (binder_name p.depth ++ (codes " : " ++ opened closes))
      ++ (place_text m n (record { id = a; depth = p.depth }) ++ (frame_text m n (Produced (record { id = b; depth = d }) closes) ++ frames_text m n fs))
  product_parts p v a b d closes t i g e =
      let domain = place_text m n (record { id = a; depth = p.depth }) in
      let under = λ (k : ℕ). place_text m n (record { id = b; depth = k }) in
      ap (λ l. l ++ frames_text m n fs) (text_at p v (node.Pi a b) t i)
      ∙ ap (λ l. (binder_name p.depth ++ codes " : " ++ l ++ codes " -> " ++ under (suc p.depth)) ++ frames_text m n fs)
      (ap (λ o. enclosed o domain) (sym g) ∙ enclosed_is closes domain)
      ∙ ap (λ k. (binder_name p.depth ++ codes " : " ++ (opened closes ++ (domain ++ closed closes)) ++ codes " -> " ++ under k) ++ frames_text m n fs) (sym e)
      ∙ apart_binder (binder_name p.depth) (codes " : ") (opened closes) domain (closed closes) (codes " -> ") (under d) (frames_text m n fs)
