-- The text of every module whose names can be written reads as that module.
use Rattle.std.proofs.Common.{length-append, not, ◌&&◌, ◌==◌, ◌≡◌, ℕ, zero, suc, ◌+◌, ◌<◌, ◌≤◌, refl, sym, ap, subst, ◌∙◌, append_assoc, Bool, true, false, cond, nat_lt, List, [], ◌∷◌, ◌++◌, length, get_or, codes, Option, Some, None, slice_get, arith}
use Rattle.std.specs.Prelude.{IsFalse, decimal, position}
use Rattle.std.specs.List.{position_or_len, list_any, list_all}
use Rattle.std.specs.Option.{option_map_or}
use Rattle.std.specs.Str.{bytes_eq}
use Rattle.std.proofs.lemmas.Grind.{common_steps}
use Rattle.std.proofs.lemmas.List.{append-nil, get_or_append_left}
use Rattle.std.proofs.lemmas.List.Sums.{position_or_len_is}
use Rattle.std.proofs.Math.Seq.{get_or-append_seam}
use Rattle.std.proofs.lemmas.Slice.Eq.{bytes_eq-Decides}
use Rattle.std.proofs.lemmas.Option.{slice_get-get_or}
use Rattle.std.proofs.lemmas.Bool.{and_parts}
use Rattle.lp_spec.specs.declared.form.Form.{Form}
use Rattle.lp_spec.specs.declared.form.Form.TheVariants.{Symbol, Def, Thm}
use Rattle.lp_spec.specs.Trees.{Tree, SortType, depth}
use Rattle.lp_spec.specs.Modules.{Declaration, signature, symbol, symbol_name}
use Rattle.lp_spec.specs.ModuleOrder.{is_declared, IsOver, IsBodyOver, MayFollow, AreDeclared}
use Rattle.lp_spec.specs.Text.{prelude, tree_text, declaration_text, declarations_text, written}
use Rattle.lp_spec.specs.TextLaws.{IsPlainName, ArePlain, IsBodyShallow, AreShallow, WrittenReads}
use Rattle.lp_spec.specs.Tokens.{is_letter, is_word_byte, word_token, Name, DefWord, ThmWord, Colon, Assign, Dot, Placed, at, before, Scanned, ended, tokens_from}
use Rattle.lp_spec.specs.Reading.{symbol_of, max_depth, IsNew, Term, IsWhole, Declares, symbol_declaration, definition, theorem, Completes, complete, next, Reads}
use Rattle.lp_spec.specs.ShortNames.{shortened, shortened_declaration, shortened_after, IsLong, IsBodyLong, AreLong}
use Rattle.dk_laws.specs.ShortenedTrees.{expanded-shortened, shortened-IsNoMore}
use Rattle.dk_laws.specs.ReadingLaws.{Reads-answer}
use Rattle.dk_laws.specs.WrittenTokens.{IsStop, Front, put, Found, Says, word_at, colon_at, assign_at, dot_at, decimal-bytes, bound_scan}
use Rattle.dk_laws.specs.WrittenReads.{AreNamed, IsWritable, found_as, tree_said}

grouped : (k n c t a b e r : List ℕ) → k ++ n ++ c ++ t ++ (a ++ b) ++ e ++ r ≡ k ++ (n ++ (c ++ (t ++ (a ++ (b ++ (e ++ r))))))
grouped k n c t a b e r = simp append_assoc

grouped_after : (j i k n c t a b e r : List ℕ)
    → j ++ i ++ k ++ n ++ c ++ t ++ (a ++ b) ++ e ++ r ≡ j ++ (i ++ (k ++ (n ++ (c ++ (t ++ (a ++ (b ++ (e ++ r))))))))
grouped_after j i k n c t a b e r = simp append_assoc

module _ (m ds : List Declaration) where
  -- a tree by the short names that are declared before it
  abbrev short_text : Tree → List ℕ
  short_text t = tree_text m 0 (shortened ds t)

  whole_said : AreNamed m ds → (t : Tree) → IsOver (length (signature ++ ds)) t → IsLong ds t → depth t ≤ max_depth
      → Says (λ tokens rest. IsWhole ds tokens rest t) (short_text t)
  whole_said n t o l h =
      let k = shortened-IsNoMore ds t in
      let w : IsWritable m ds 0 (shortened ds t) =
      record { bound = omega (arith, k.bound, o.closed); kindless = k.kindless o.kindless; known = k.known o.known; few = omega (arith, k.shallow, h) } in
      found_as m ds (λ tokens rest a. record { term = subst (Term ds [] tokens rest) (expanded-shortened ds t l) a; shallow = h })
      (tree_said m ds n 0 (shortened ds t) w).term

  symbol_parts : (name ty rest : List ℕ) → [] ++ name ++ codes " : " ++ ty ++ [] ++ codes ".\n" ++ rest ≡ name ++ (32 ∷ 58 ∷ 32 ∷ (ty ++ (46 ∷ 10 ∷ rest)))
  symbol_parts name ty rest = simp (append_assoc, append-nil)

  -- the name, the sign behind it and a tree up to a stop
  record IsTyped (name : List ℕ) (t : Tree) (p : ℕ) (rest : List ℕ) : Type 0 where
    front : Front
    colon : ℕ
    place : ℕ
    is : tokens_from p (name ++ (32 ∷ 58 ∷ 32 ∷ (short_text t ++ rest)))
        ≡ put (λ tokens. at p (Name name) ∷ at colon Colon ∷ front tokens) (tokens_from place rest)
    holds : (tokens : List Placed) → IsWhole ds (front tokens) tokens t

  typed_at : (name : List ℕ) (t : Tree) (p : ℕ) (rest : List ℕ) → IsPlainName name → Says (λ tokens rest. IsWhole ds tokens rest t) (short_text t) → IsStop rest
      → IsTyped name t p rest
  typed_at name t p rest plain h stop =
      let w = word_at p name (32 ∷ 58 ∷ 32 ∷ (short_text t ++ rest)) plain.word refl in
      let r = h (w.place + 1 + 1 + 1) rest stop in
      record {
        front = r.front;
        colon = w.place + 1;
        place = r.place;
        is = w.is
            ∙ ap (λ token. before (at p token ∷ []) (tokens_from w.place (32 ∷ 58 ∷ 32 ∷ (short_text t ++ rest)))) plain.no_key
            ∙ ap (before (at p (Name name) ∷ [])) (colon_at w.place (short_text t ++ rest))
            ∙ ap (put (λ tokens. at p (Name name) ∷ at (w.place + 1) Colon ∷ tokens)) r.is;
        holds = r.holds;
      }

  -- what is read of a declaration's text
  symbol_found : (name : List ℕ) (ty : Tree) (p : ℕ) (rest : List ℕ) → IsPlainName name → IsNew ds name
      → Says (λ tokens rest. IsWhole ds tokens rest ty) (short_text ty)
      → Found (λ tokens rest. Declares ds tokens rest (record { name = name; form = Symbol; ty = ty; body = None })) p
      ([] ++ name ++ codes " : " ++ short_text ty ++ [] ++ codes ".\n") rest
  symbol_found name ty p rest plain new h =
      let r = typed_at name ty p (46 ∷ 10 ∷ rest) plain h refl in
      record {
        front = λ tokens. at p (Name name) ∷ at r.colon Colon ∷ r.front (at r.place Dot ∷ tokens);
        place = r.place + 1 + 1;
        is = ap (tokens_from p) (symbol_parts name (short_text ty) rest)
            ∙ r.is
            ∙ ap (put (λ tokens. at p (Name name) ∷ at r.colon Colon ∷ r.front tokens)) (dot_at r.place rest);
        holds = λ tokens. symbol_declaration new (r.holds (at r.place Dot ∷ tokens));
      }

  -- the name, the type and the body of a definition or a theorem
  record IsBodied (name : List ℕ) (ty body : Tree) (p : ℕ) (rest : List ℕ) : Type 0 where
    front : Front
    between : Front
    colon : ℕ
    assign : ℕ
    dot : ℕ
    place : ℕ
    is : tokens_from p (name ++ (32 ∷ 58 ∷ 32 ∷ (short_text ty ++ (32 ∷ 58 ∷ 61 ∷ 32 ∷ (short_text body ++ (46 ∷ 10 ∷ rest))))))
        ≡ put (λ tokens. at p (Name name) ∷ at colon Colon ∷ front (at assign Assign ∷ between (at dot Dot ∷ tokens))) (tokens_from place rest)
    ty_holds : (tokens : List Placed) → IsWhole ds (front tokens) tokens ty
    body_holds : (tokens : List Placed) → IsWhole ds (between tokens) tokens body

  bodied_at : (name : List ℕ) (ty body : Tree) (p : ℕ) (rest : List ℕ) → IsPlainName name → Says (λ tokens rest. IsWhole ds tokens rest ty) (short_text ty)
      → Says (λ tokens rest. IsWhole ds tokens rest body) (short_text body) → IsBodied name ty body p rest
  bodied_at name ty body p rest plain h k =
      let r = typed_at name ty p (32 ∷ 58 ∷ 61 ∷ 32 ∷ (short_text body ++ (46 ∷ 10 ∷ rest))) plain h refl in
      let s = k (r.place + 1 + 1 + 1 + 1) (46 ∷ 10 ∷ rest) refl in
      record {
        front = r.front;
        between = s.front;
        colon = r.colon;
        assign = r.place + 1;
        dot = s.place;
        place = s.place + 1 + 1;
        is = r.is
            ∙ ap (put (λ tokens. at p (Name name) ∷ at r.colon Colon ∷ r.front tokens)) (assign_at r.place (short_text body ++ (46 ∷ 10 ∷ rest)))
            ∙ ap (put (λ tokens. at p (Name name) ∷ at r.colon Colon ∷ r.front (at (r.place + 1) Assign ∷ tokens))) s.is
            ∙ ap (put (λ tokens. at p (Name name) ∷ at r.colon Colon ∷ r.front (at (r.place + 1) Assign ∷ s.front tokens))) (dot_at s.place rest);
        ty_holds = r.holds;
        body_holds = s.holds;
      }

  definition_parts : (name ty body rest : List ℕ) → codes "def " ++ name ++ codes " : " ++ ty ++ (codes " := " ++ body) ++ codes ".\n" ++ rest ≡ codes "def"
      ++ (32 ∷ (name ++ (32 ∷ 58 ∷ 32 ∷ (ty ++ (32 ∷ 58 ∷ 61 ∷ 32 ∷ (body ++ (46 ∷ 10 ∷ rest)))))))
  definition_parts name ty body rest = grouped (codes "def ") name (codes " : ") ty (codes " := ") body (codes ".\n") rest

  definition_found : (name : List ℕ) (ty body : Tree) (p : ℕ) (rest : List ℕ) → IsPlainName name → IsNew ds name
      → Says (λ tokens rest. IsWhole ds tokens rest ty) (short_text ty) → Says (λ tokens rest. IsWhole ds tokens rest body) (short_text body)
      → Found (λ tokens rest. Declares ds tokens rest (record { name = name; form = Def; ty = ty; body = Some body })) p
      (codes "def " ++ name ++ codes " : " ++ short_text ty ++ (codes " := " ++ short_text body) ++ codes ".\n") rest
  definition_found name ty body p rest plain new h k =
      let w = word_at p (codes "def") (32 ∷ (name ++ (32 ∷ 58 ∷ 32 ∷ (short_text ty ++ (32 ∷ 58 ∷ 61 ∷ 32 ∷ (short_text body ++ (46 ∷ 10 ∷ rest)))))))
      (record { first = 100; more = codes "ef"; is = refl; letter = refl; bytes = refl }) refl in
      let r = bodied_at name ty body (w.place + 1) rest plain h k in
      record {
        front = λ tokens. at p DefWord ∷ at (w.place + 1) (Name name) ∷ at r.colon Colon ∷ r.front (at r.assign Assign ∷ r.between (at r.dot Dot ∷ tokens));
        place = r.place;
        is = ap (tokens_from p) (definition_parts name (short_text ty) (short_text body) rest) ∙ w.is ∙ ap (before (at p DefWord ∷ [])) r.is;
        holds = λ tokens. definition new (r.ty_holds (at r.assign Assign ∷ r.between (at r.dot Dot ∷ tokens))) (r.body_holds (at r.dot Dot ∷ tokens));
      }

  theorem_parts : (number name ty body rest : List ℕ) → codes "(; bound " ++ number ++ codes " ;)\nthm " ++ name ++ codes " : " ++ ty ++ (codes " := " ++ body)
      ++ codes ".\n" ++ rest ≡ codes "(; bound "
      ++ (number ++ (codes " ;)\n" ++ (codes "thm" ++ (32 ∷ (name ++ (32 ∷ 58 ∷ 32 ∷ (ty ++ (32 ∷ 58 ∷ 61 ∷ 32 ∷ (body ++ (46 ∷ 10 ∷ rest))))))))))
  theorem_parts number name ty body rest = grouped_after (codes "(; bound ") number (codes " ;)\nthm ") name (codes " : ") ty (codes " := ") body (codes ".\n")
      rest

  theorem_found : (bound : ℕ) (name : List ℕ) (ty body : Tree) (p : ℕ) (rest : List ℕ) → IsPlainName name → IsNew ds name
      → Says (λ tokens rest. IsWhole ds tokens rest ty) (short_text ty) → Says (λ tokens rest. IsWhole ds tokens rest body) (short_text body)
      → Found (λ tokens rest. Declares ds tokens rest (record { name = name; form = Thm; ty = ty; body = Some body })) p
      (codes "(; bound " ++ decimal bound ++ codes " ;)\nthm " ++ name ++ codes " : " ++ short_text ty ++ (codes " := " ++ short_text body) ++ codes ".\n") rest
  theorem_found bound name ty body p rest plain new h k =
      let more = 32 ∷ (name ++ (32 ∷ 58 ∷ 32 ∷ (short_text ty ++ (32 ∷ 58 ∷ 61 ∷ 32 ∷ (short_text body ++ (46 ∷ 10 ∷ rest)))))) in
      let c = bound_scan p (decimal bound) (codes "thm" ++ more) (decimal-bytes bound) in
      let w = word_at c.place (codes "thm") more (record { first = 116; more = codes "hm"; is = refl; letter = refl; bytes = refl }) refl in
      let r = bodied_at name ty body (w.place + 1) rest plain h k in
      record {
        front = λ tokens. at c.place ThmWord ∷ at (w.place + 1) (Name name) ∷ at r.colon Colon ∷ r.front
            (at r.assign Assign ∷ r.between (at r.dot Dot ∷ tokens));
        place = r.place;
        is = ap (tokens_from p) (theorem_parts (decimal bound) name (short_text ty) (short_text body) rest) ∙ c.is ∙ w.is
            ∙ ap (before (at c.place ThmWord ∷ [])) r.is;
        holds = λ tokens. theorem new (r.ty_holds (at r.assign Assign ∷ r.between (at r.dot Dot ∷ tokens))) (r.body_holds (at r.dot Dot ∷ tokens));
      }

  -- what is read of any declaration's text
  by_form : AreNamed m ds → (form : Form) (name : List ℕ) (ty : Tree) (body : Option Tree) (bound p : ℕ) (rest : List ℕ) → IsPlainName name → IsNew ds name
      → Says (λ tokens rest. IsWhole ds tokens rest ty) (short_text ty) → IsBodyOver (length (signature ++ ds)) form body → IsBodyLong ds body
      → IsBodyShallow body → Found (λ tokens rest. Declares ds tokens rest (record { name = name; form = form; ty = ty; body = body })) p
      (declaration_text m (shortened_declaration ds (record { name = name; form = form; ty = ty; body = body })) bound) rest
  by_form n Symbol name ty None bound p rest plain new h o l k = symbol_found name ty p rest plain new h
  by_form n Symbol name ty (Some t) bound p rest plain new h o l k = absurd (cc)
  by_form n Def name ty None bound p rest plain new h o l k = absurd o
  by_form n Def name ty (Some t) bound p rest plain new h o l k = definition_found name ty t p rest plain new h (whole_said n t o l k)
  by_form n Thm name ty None bound p rest plain new h o l k = absurd o
  by_form n Thm name ty (Some t) bound p rest plain new h o l k = theorem_found bound name ty t p rest plain new h (whole_said n t o l k)

  declaration_found : AreNamed m ds → (d : Declaration) (bound p : ℕ) (rest : List ℕ) → IsPlainName d.name → MayFollow (signature ++ ds) d → IsLong ds d.ty
      → IsBodyLong ds d.body → depth d.ty ≤ max_depth → IsBodyShallow d.body
      → Found (λ tokens rest. Declares ds tokens rest d) p (declaration_text m (shortened_declaration ds d) bound) rest
  declaration_found n d bound p rest plain f l j h k = by_form n d.form d.name d.ty d.body bound p rest plain f.new_name (whole_said n d.ty f.ty l h) f.body j k

-- any declaration, for a place that a list lacks
abbrev no_declaration : Declaration
no_declaration = symbol [] SortType

-- no name stands twice in the list
record AreDistinct (ds : List Declaration) : Type 0 where
  each : (k s : ℕ) → k < s → s < length ds → bytes_eq (get_or ds k no_declaration).name (get_or ds s no_declaration).name ≡ false

not_any : (p : Declaration → Bool) (ds : List Declaration) (k : ℕ) → IsFalse (list_any p ds) → k < length ds → p (get_or ds k no_declaration) ≡ false
not_any p [] k e h = absurd (omega arith)
not_any p (d ∷ ds) zero e h = grind (arith, e)
not_any p (d ∷ ds) (suc k) e h = not_any p ds k (grind (arith, e)) (omega (arith, h))

push_at : (ds : List Declaration) (d : Declaration) → AreDistinct ds → IsFalse (is_declared ds d.name) → (k s : ℕ) → k < s → s < length (ds ++ d ∷ [])
    → (b : Bool) → nat_lt s (length ds) ≡ b → bytes_eq (get_or (ds ++ d ∷ []) k no_declaration).name (get_or (ds ++ d ∷ []) s no_declaration).name ≡ false
push_at ds d h new k s below within true e =
    let here : s < length ds = grind (arith, common_steps, e) in
    ap (λ (x : Declaration). bytes_eq x.name (get_or (ds ++ d ∷ []) s no_declaration).name) (get_or_append_left ds (d ∷ []) no_declaration k (omega arith))
    ∙ ap (λ (x : Declaration). bytes_eq (get_or ds k no_declaration).name x.name) (get_or_append_left ds (d ∷ []) no_declaration s here)
    ∙ h.each k s below here
push_at ds d h new k s below within false e =
    let size : length (ds ++ d ∷ []) ≡ length ds + 1 = length-append ds (d ∷ []) in
    let past : length ds ≤ s = grind (arith, common_steps, e) in
    let last : s ≡ length ds = omega (arith, size) in
    ap (λ (x : Declaration). bytes_eq x.name (get_or (ds ++ d ∷ []) s no_declaration).name) (get_or_append_left ds (d ∷ []) no_declaration k (omega arith))
    ∙ ap (λ i. bytes_eq (get_or ds k no_declaration).name (get_or (ds ++ d ∷ []) i no_declaration).name) last
    ∙ ap (λ (x : Declaration). bytes_eq (get_or ds k no_declaration).name x.name) (get_or-append_seam ds d [] no_declaration)
    ∙ not_any (λ x. bytes_eq x.name d.name) ds k new (omega arith)

distinct_push : (ds : List Declaration) (d : Declaration) → AreDistinct ds → IsFalse (is_declared ds d.name) → AreDistinct (ds ++ d ∷ [])
distinct_push ds d h new = record { each = λ k s below within. push_at ds d h new k s below within (nat_lt s (length ds)) refl }

-- each name is new after these and those before it
abbrev NewNames : List Declaration → List Declaration → Type 0
NewNames before [] = Unit {0}
NewNames before (d ∷ ds) = IsFalse (is_declared before d.name) × NewNames (before ++ d ∷ []) ds

distinct_after : (before ds : List Declaration) → AreDistinct before → NewNames before ds → AreDistinct (before ++ ds)
distinct_after before [] h n = subst AreDistinct (sym (append-nil before)) h
distinct_after before (d ∷ ds) h n = subst AreDistinct (append_assoc before (d ∷ []) ds)
    (distinct_after (before ++ d ∷ []) ds (distinct_push before d h n.0) n.1)

signature_distinct : AreDistinct signature
signature_distinct =
    distinct_after [] signature (record { each = λ k s below within. absurd (omega arith) })
    (refl, (refl, (refl, (refl, (refl, (refl, (refl, (refl, (refl, (refl, (refl, (refl, (refl, (refl, (refl, (refl, (refl, (refl, tt))))))))))))))))))

-- a place is the first of its name
first_place : (ds : List Declaration) (s : ℕ) → AreDistinct ds → s < length ds → position (λ d. bytes_eq d.name (get_or ds s no_declaration).name) ds ≡ Some s
first_place ds s h within =
    let name = (get_or ds s no_declaration).name in
    let e : position_or_len (λ (d : Declaration). bytes_eq d.name name) ds ≡ s =
    position_or_len_is (λ (d : Declaration). bytes_eq d.name name) ds s no_declaration (omega arith) (λ k below. h.each k s below within)
    (λ w. (bytes_eq-Decides name name).1 refl) in
    let t : nat_lt s (length ds) ≡ true = grind (arith, common_steps) in
    ap (λ i. cond (nat_lt i (length ds)) (Some i) None) e ∙ ap (λ b. cond b (Some s) None) t

-- names by a test that computes
abbrev is_safe : List ℕ → Bool
is_safe [] = false
is_safe (b ∷ more) = is_letter b && (not (b == 118) && list_all is_word_byte more)

apart : (b : ℕ) (more : List ℕ) (d : ℕ) → not (b == 118) ≡ true → ◌≡◌ {A = List ℕ} (b ∷ more) (118 ∷ decimal d) → ⊥
apart b more d e same = let f : b ≡ 118 = cc in absurd (grind (arith, common_steps))

safe_plain : (name : List ℕ) → is_safe name ≡ true → word_token name ≡ Name name → IsPlainName name
safe_plain [] e f = absurd (cc)
safe_plain (b ∷ more) e f =
    let t = and_parts (is_letter b) (not (b == 118) && list_all is_word_byte more) e in
    let u = and_parts (not (b == 118)) (list_all is_word_byte more) t.1 in
    record { word = record { first = b; more = more; is = refl; letter = t.0; bytes = u.1 }; no_key = f; no_binder = λ d same. apart b more d u.0 same }

signature_plain : ArePlain signature
signature_plain = (
  safe_plain (codes "type") refl refl,
  (
    safe_plain (codes "bool") refl refl,
    (
      safe_plain (codes "ind") refl refl,
      (
        safe_plain (codes "arr") refl refl,
        (
          safe_plain (codes "term") refl refl,
          (
            safe_plain (codes "eq") refl refl,
            (
              safe_plain (codes "select") refl refl,
              (
                safe_plain (codes "proof") refl refl,
                (
                  safe_plain (codes "refl") refl refl,
                  (
                    safe_plain (codes "fun_ext") refl refl,
                    (
                      safe_plain (codes "app_thm") refl refl,
                      (
                        safe_plain (codes "prop_ext") refl refl,
                        (
                          safe_plain (codes "eq_mp") refl refl,
                          (
                            safe_plain (codes "sub") refl refl,
                            (
                              safe_plain (codes "sub_abs") refl refl,
                              (
                                safe_plain (codes "sub_rep") refl refl,
                                (safe_plain (codes "sub_abs_rep") refl refl, (safe_plain (codes "sub_rep_abs") refl refl, tt)),
                              ),
                            ),
                          ),
                        ),
                      ),
                    ),
                  ),
                ),
              ),
            ),
          ),
        ),
      ),
    ),
  ),
)

plain_append : (xs ys : List Declaration) → ArePlain xs → ArePlain ys → ArePlain (xs ++ ys)
plain_append [] ys h k = k
plain_append (x ∷ xs) ys h k = (h.0, plain_append xs ys h.1 k)

plain_at : (ds : List Declaration) (s : ℕ) → ArePlain ds → s < length ds → IsPlainName (get_or ds s no_declaration).name
plain_at [] s h within = absurd (omega arith)
plain_at (d ∷ ds) zero h within = h.0
plain_at (d ∷ ds) (suc s) h within = plain_at ds s h.1 (omega (arith, within))

-- the name of a symbol, among the first declarations
name_is : (ds rest : List Declaration) (s : ℕ) → s < length (signature ++ ds) → symbol_name (ds ++ rest) s ≡ (get_or (signature ++ ds) s no_declaration).name
name_is ds rest s within =
    let size : length (signature ++ ds ++ rest) ≡ length (signature ++ ds) + length rest = length-append (signature ++ ds) rest in
    ap (λ all. option_map_or (λ (d : Declaration). d.name) (slice_get all s) []) (sym (append_assoc signature ds rest))
    ∙ ap (λ o. option_map_or (λ (d : Declaration). d.name) o []) (slice_get-get_or (signature ++ ds ++ rest) s no_declaration (omega (arith, size)))
    ∙ ap (λ (d : Declaration). d.name) (get_or_append_left (signature ++ ds) rest no_declaration s within)

all_named : (ds rest : List Declaration) → AreDistinct (signature ++ ds) → ArePlain (signature ++ ds) → AreNamed (ds ++ rest) ds
all_named ds rest h k = record {
  each = λ s within. record {
    plain = subst IsPlainName (sym (name_is ds rest s within)) (plain_at (signature ++ ds) s k within);
    found = ap (symbol_of ds) (name_is ds rest s within) ∙ first_place (signature ++ ds) s h within;
  };
}

named_in : (m ds rest : List Declaration) → m ≡ ds ++ rest → AreDistinct (signature ++ ds) → ArePlain (signature ++ ds) → AreNamed m ds
named_in m ds rest e h k = subst (λ w. AreNamed w ds) (sym e) (all_named ds rest h k)

-- the text of the declarations that are left completes the module
record IsRead (p : ℕ) (text : List ℕ) (ds m : List Declaration) : Type 0 where
  place : ℕ
  whole : (tokens_from p text).end ≡ ended place
  declares : Completes ds (tokens_from p text).tokens m

read_after : (m ds : List Declaration) (d : Declaration) (p : ℕ) (text more : List ℕ) → Found (λ tokens rest. Declares ds tokens rest d) p text more
    → ((q : ℕ) → IsRead q more (ds ++ d ∷ []) m) → IsRead p (text ++ more) ds m
read_after m ds d p text more f h =
    let r = h f.place in
    record {
      place = r.place;
      whole = ap (λ (s : Scanned). s.end) f.is ∙ r.whole;
      declares = subst (λ (s : Scanned). Completes ds s.tokens m) (sym f.is) (next (f.holds (tokens_from f.place more).tokens) r.declares);
    }

read_rest : (m ds rest : List Declaration) (bounds : List ℕ) → m ≡ ds ++ rest → AreDistinct (signature ++ ds) → ArePlain (signature ++ ds) → ArePlain rest
    → AreShallow rest → AreLong ds rest → AreDeclared (signature ++ ds) rest → length bounds ≡ length rest → (p : ℕ)
    → IsRead p (declarations_text m (shortened_after ds rest) bounds) ds m
read_rest m ds [] bounds e h k plain shallow long f size p =
    record { place = p; whole = refl; declares = subst (Completes ds []) (sym (e ∙ append-nil ds)) complete }
read_rest m ds (d ∷ rest) [] e h k plain shallow long f size p = absurd (omega (arith, size))
read_rest m ds (d ∷ rest) (bound ∷ bounds) e h k plain shallow long f size p =
    read_after m ds d p (declaration_text m (shortened_declaration ds d) bound) (declarations_text m (shortened_after (ds ++ d ∷ []) rest) bounds)
    (declaration_found m ds (named_in m ds (d ∷ rest) e h k) d bound p (declarations_text m (shortened_after (ds ++ d ∷ []) rest) bounds) plain.0 f.0 long.0
    long.1 shallow.0 shallow.1)
    (read_rest m (ds ++ d ∷ []) rest bounds (e ∙ sym (append_assoc ds (d ∷ []) rest))
    (subst AreDistinct (append_assoc signature ds (d ∷ [])) (distinct_push (signature ++ ds) d h f.0.new_name))
    (subst ArePlain (append_assoc signature ds (d ∷ [])) (plain_append (signature ++ ds) (d ∷ []) k (plain.0, tt)))
    plain.1 shallow.2 long.2
    (subst (λ w. AreDeclared w rest) (append_assoc signature ds (d ∷ [])) f.1)
    (omega (arith, size)))

-- what is written of a module reads as it
pub written_reads : WrittenReads
written_reads m bounds f long plain shallow size =
    let r = read_rest m [] m bounds refl signature_distinct signature_plain plain shallow long f size (length prelude) in
    let read : Reads (written m bounds) m = record
    { text = declarations_text m (shortened_after [] m) bounds; begins = refl; place = r.place; whole = r.whole; declares = r.declares } in
    record { read = read; only = λ other h. cc (Reads-answer (written m bounds) other h, Reads-answer (written m bounds) m read) }
