-- What a well-typed module has over itself: closed trees, a sort for each declared type, and its declared type for each body.
use Rattle.std.proofs.Common.{◌≡◌, ⊎_elim, sym, ap, ◌∙◌, subst, ℕ, List, [], ◌∷◌, ◌++◌, append_assoc, Option, Some, None}
use Rattle.std.specs.Prelude.{option_map}
use Rattle.std.proofs.lemmas.List.{append-nil}
use Rattle.std.proofs.lemmas.Option.{same_Some}
use Rattle.lp_spec.specs.declared.form.Form.{Form}
use Rattle.lp_spec.specs.declared.form.Form.TheVariants.{Symbol, Def, Thm}
use Rattle.lp_binding_laws.specs.LookUps.{option_map-some, option_and_then-some, last_or}
use Rattle.lp_spec.specs.Trees.{Tree, SortType, loose}
use Rattle.lp_spec.specs.Modules.{Declaration, signature, symbol_declaration, symbol_type}
use Rattle.lp_spec.specs.Conversion.{definition_of, symbol_definition}
use Rattle.lp_typing_laws.specs.ConversionLaws.{IsClosed}
use Rattle.lp_spec.specs.Typing.{is_type, Typed, IsSorted, IsBodyOf, IsTypedAfter, AreTypedAfter}
use Rattle.lp_typing_laws.specs.TypingLaws.{Typed-closed, Typed-append, IsSorted-append}

-- the declaration's type is closed and has a sort, and its body has its type
pub record IsSoundDeclaration (m : List Declaration) (d : Declaration) : Type 0 where
  pub closed : loose d.ty ≡ 0
  pub sorted : IsSorted m [] d.ty
  pub body : IsBodyOf m d.form d.body d.ty

-- each declaration of the signature and of the module is sound over the whole module
pub record IsSound (m : List Declaration) : Type 0 where
  pub each : (s : ℕ) (d : Declaration) → symbol_declaration m s ≡ Some d → IsSoundDeclaration m d

-- a definition's body has its type
Typed-definition_of : (m : List Declaration) (f : Form) (b : Option Tree) (A t : Tree) → definition_of f b ≡ Some t → IsBodyOf m f b A → Typed m [] t A
Typed-definition_of m Symbol b A t e h = absurd (cc)
Typed-definition_of m Def None A t e h = absurd h
Typed-definition_of m Def (Some u) A t e h = subst (λ w. Typed m [] w A) (same_Some _ _ e) h
Typed-definition_of m Thm b A t e h = absurd (cc)

module _ (m : List Declaration) (sound : IsSound m) where
  -- a declared type has a sort
  pub symbol_type-sorted : (s : ℕ) (A : Tree) → symbol_type m s ≡ Some A → IsSorted m [] A
  symbol_type-sorted s A e = let h = option_map-some (λ (d : Declaration). d.ty) (symbol_declaration m s) A e in subst (IsSorted m []) h.2
      (sound.each s h.0 h.1).sorted

  -- a declared type is closed
  pub symbol_type-closed : (s : ℕ) (A : Tree) → symbol_type m s ≡ Some A → loose A ≡ 0
  symbol_type-closed s A e = let h = option_map-some (λ (d : Declaration). d.ty) (symbol_declaration m s) A e in subst (λ w. loose w ≡ 0) h.2
      (sound.each s h.0 h.1).closed

  -- what a symbol stands for has its declared type
  pub symbol_definition-typed : (s : ℕ) (t A : Tree) → symbol_definition m s ≡ Some t → symbol_type m s ≡ Some A → Typed m [] t A
  symbol_definition-typed s t A e k =
      let h = option_and_then-some (λ (d : Declaration). definition_of d.form d.body) (symbol_declaration m s) t e in
      let same : h.0.ty ≡ A = same_Some _ _ (sym (ap (option_map (λ (d : Declaration). d.ty)) h.1) ∙ k) in
      subst (Typed m [] t) same (Typed-definition_of m h.0.form h.0.body h.0.ty t h.2 (sound.each s h.0 h.1).body)

  -- what a symbol stands for is closed
  symbol_definition-closed : (s : ℕ) (t : Tree) → symbol_definition m s ≡ Some t → loose t ≡ 0
  symbol_definition-closed s t e =
      let h = option_and_then-some (λ (d : Declaration). definition_of d.form d.body) (symbol_declaration m s) t e in
      Typed-closed (Typed-definition_of m h.0.form h.0.body h.0.ty t h.2 (sound.each s h.0 h.1).body)

  -- a sound module is closed
  pub IsSound-closed : IsClosed m
  IsSound-closed = record { types = symbol_type-closed; definitions = symbol_definition-closed }

-- further declarations keep a body's type
IsBodyOf-append : (m more : List Declaration) (f : Form) (b : Option Tree) (A : Tree) → IsBodyOf m f b A → IsBodyOf (m ++ more) f b A
IsBodyOf-append m more Symbol b A h = h
IsBodyOf-append m more Def None A h = h
IsBodyOf-append m more Def (Some t) A h = Typed-append m more h
IsBodyOf-append m more Thm None A h = h
IsBodyOf-append m more Thm (Some t) A h = Typed-append m more h

-- further declarations keep a declaration sound
IsSoundDeclaration-append : (m more : List Declaration) (d : Declaration) → IsSoundDeclaration m d → IsSoundDeclaration (m ++ more) d
IsSoundDeclaration-append m more d h = record
    { closed = h.closed; sorted = IsSorted-append m more h.sorted; body = IsBodyOf-append m more d.form d.body d.ty h.body }

-- a typed declaration after a sound module leaves it sound
pub IsSound-after : (m : List Declaration) (d : Declaration) → IsSound m → IsTypedAfter m d → IsSound (m ++ d ∷ [])
IsSound-after m d sound h = record { each = go }
  where
    own : IsSoundDeclaration (m ++ d ∷ []) d
    own = IsSoundDeclaration-append m (d ∷ []) d
        (record { closed = Typed-closed h.ty; sorted = record { sort = SortType; is = is_type; by = h.ty }; body = h.body })

    go : (s : ℕ) (e : Declaration) → symbol_declaration (m ++ d ∷ []) s ≡ Some e → IsSoundDeclaration (m ++ d ∷ []) e
    go s e at = ⊎_elim
        (λ old. IsSoundDeclaration-append m (d ∷ []) e (sound.each s e old))
        (λ new. subst (IsSoundDeclaration (m ++ d ∷ [])) new own)
        (last_or (signature ++ m) d e s at)

-- typed declarations after a sound module leave it sound
pub IsSound-all_after : (m ds : List Declaration) → IsSound m → AreTypedAfter m ds → IsSound (m ++ ds)
IsSound-all_after m [] sound h = subst IsSound (sym (append-nil m)) sound
IsSound-all_after m (d ∷ ds) sound h = subst IsSound (append_assoc m (d ∷ []) ds) (IsSound-all_after (m ++ d ∷ []) ds (IsSound-after m d sound h.0) h.1)
