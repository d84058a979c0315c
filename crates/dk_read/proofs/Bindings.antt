-- Names where a binder opens and where it closes, and where a declaration ends.
use Rattle.std.proofs.Common.{◌≡◌, ℕ, suc, ◌-◌, ◌<◌, ◌≤◌, ◌+◌, refl, sym, ap, subst, ◌∙◌, Bool, true, false, cond, List, [], ◌∷◌, ◌++◌, length, reverse, take, slice_get, append_assoc, Option, None, Some, position, arith}
use Rattle.std.specs.Prelude.{if◌then◌else◌, IsFalse, option_map}
use Rattle.std.specs.List.{list_any}
use Rattle.std.specs.Str.{bytes_eq}
use Rattle.std.specs.Cmp.Lexicographic.{same_text}
use Rattle.std.proofs.lemmas.List.{reverse-append}
use Rattle.std.proofs.lemmas.Option.{same_Some}
use Rattle.std.proofs.lemmas.List.Quantifiers.{position-Some}
use Rattle.lp_spec.specs.Trees.{Tree, SortType}
use Rattle.lp_spec.specs.Modules.{Declaration, signature, symbol}
use Rattle.lp_spec.specs.ModuleOrder.{is_declared, IsModule}
use Rattle.lp_spec.specs.Reading.{Scope}
use Rattle.lp_spec.specs.ReadingFaults as reading
use Rattle.lp_term.specs.declared.LpId.{LpId}
use Rattle.lp_term.specs.TableLaws.{Keeps-refl}
use Rattle.holide_sig.specs.declared.module.Module.{Module}
use Rattle.holide_sig.specs.Modules.{declarations_of, IsHeld}
use Rattle.dk_read.specs.declared.terms.Meaning.{Meaning}
use Rattle.dk_read.specs.declared.terms.Meaning.TheVariants as meaning
use Rattle.dk_read.specs.declared.terms.Frame.{Frame}
use Rattle.dk_read.specs.declared.terms.Frame.TheVariants as frame
use Rattle.dk_read.specs.declared.terms.Binder.{Binder}
use Rattle.dk_read.specs.declared.terms.Atoms.{Atoms}
use Rattle.dk_read.specs.declared.terms.Head.{Head}
use Rattle.dk_read.specs.Names.{Named, name_at, looked, bound, symbol_meaning, first_meaning, Puts}
use Rattle.dk_read.specs.Names as naming
use Rattle.dk_read.specs.States.{frame_in, frames_in, IsBinding, IsFrameKnown, AreFramesKnown, AreAtoms, IsHeadKnown, IsPlain, IsSoundIn, Binds, bound_frame}
use Rattle.name_table.specs.Positions.{first, position-first, first-append-Some, first-append-None}
use Rattle.dk_read.proofs.Named.{bytes_eq-refl, bytes_eq-symm}
use Rattle.dk_read.proofs.Places.{not_any}
use Rattle.dk_read.proofs.Grown.{frames_in-Keeps, AreFramesKnown-Keeps, IsHeadKnown-Keeps, IsBinding-Keeps}

-- a scope has at most as many binders as there are frames
pub scope_length : (ts : List Tree) (ns : List Named) (fs : List Frame) → length (reading.scope_of (frames_in ts ns fs)) ≤ length fs
scope_length ts ns [] = omega arith
scope_length ts ns (frame.Enclosing f ∷ fs) = let h = scope_length ts ns fs in omega (arith, h)
scope_length ts ns (frame.Domain n ∷ fs) = let h = scope_length ts ns fs in omega (arith, h)
scope_length ts ns (frame.Product n a w ∷ fs) = let h = scope_length ts ns fs in omega (arith, h)
scope_length ts ns (frame.Abstraction n a w ∷ fs) = let h = scope_length ts ns fs in omega (arith, h)

module _ (m : Module) (ns : List Named) (z : ℕ) (vs : Atoms) (b : ℕ) (h : Head) (fs : List Frame) where
  plain_scope : (f : Frame) → IsPlain f → reading.scope_of (frames_in m.table ns (f ∷ fs)) ≡ reading.scope_of (frames_in m.table ns fs)
  plain_scope (frame.Enclosing f) p = refl
  plain_scope (frame.Domain n) p = refl
  plain_scope (frame.Product n a w) p = absurd p
  plain_scope (frame.Abstraction n a w) p = absurd p

  -- a frame of no binder opens
  pub plain_in : (f : Frame) → IsPlain f → IsFrameKnown m.table ns (signature ++ declarations_of m) (reading.scope_of (frames_in m.table ns fs)) f
      → IsSoundIn m ns z vs b h fs → IsSoundIn m ns z vs b h (f ∷ fs)
  plain_in f p k s =
      let e = plain_scope f p in
      record {
        held = s.held;
        is_module = s.is_module;
        frames = (k, s.frames);
        head = s.head;
        meanings = λ x. s.meanings x ∙ ap (λ c. bound (signature ++ declarations_of m) c x) (sym e);
        empty = s.empty;
        depth = s.depth ∙ ap length (sym e);
        few = omega (arith, s.few);
        atoms = s.atoms;
      }

  -- and closes
  pub plain_out : (f : Frame) → IsPlain f → IsSoundIn m ns z vs b h (f ∷ fs) → IsSoundIn m ns z vs b h fs
  plain_out f p s =
      let e = plain_scope f p in
      let depth : b ≡ length (reading.scope_of (frames_in m.table ns fs)) = s.depth ∙ ap length e in
      record {
        held = s.held;
        is_module = s.is_module;
        frames = s.frames.1;
        head = s.head;
        meanings = λ x. s.meanings x ∙ ap (λ c. bound (signature ++ declarations_of m) c x) e;
        empty = s.empty;
        depth = depth;
        few = omega (arith, depth, scope_length m.table ns fs);
        atoms = s.atoms;
      }

  module _ (ms : List Named) (j : naming.Keeps ns ms) (n : ℕ) where
    abbrev pub ds : List Declaration
    ds = signature ++ declarations_of m

    abbrev pub outer : Scope
    outer = reading.scope_of (frames_in m.table ns fs)

    outer-Keeps : AreFramesKnown m.table ns ds fs → reading.scope_of (frames_in m.table ms fs) ≡ outer
    outer-Keeps k = ap reading.scope_of (frames_in-Keeps m.table m.table (Keeps-refl m.table) ns ms j ds fs k)

    -- a binder opens
    pub bind_in : (f : Frame) (a : LpId) (w : Meaning)
        → ((ts : List Tree) (l : List Named) (scope : Scope) → IsBinding ts l ds scope n a w → IsFrameKnown ts l ds scope f)
        → ((l : List Named) → reading.scope_of (frames_in m.table l (f ∷ fs)) ≡ name_at l n ∷ reading.scope_of (frames_in m.table l fs)) → n < length ns
        → a.0 < length m.table → w ≡ looked ns (name_at ns n) → Puts ns (name_at ns n) (meaning.Binder b) ms → IsSoundIn m ns z vs b h fs
        → IsSoundIn m ms z vs (b + 1) h (f ∷ fs)
    bind_in f a w known scope name domain hidden puts s =
        let same = outer-Keeps s.frames in
        let one : reading.scope_of (frames_in m.table ms (f ∷ fs)) ≡ name_at ns n ∷ outer = scope ms ∙ cc (j.stays n name, same) in
        let binding : IsBinding m.table ms ds outer n a w =
        IsBinding-Keeps m.table m.table (Keeps-refl m.table) ns ms j ds outer n a w
        (record { name = name; domain = domain; hides = hidden ∙ s.meanings (name_at ns n) }) in
        record {
          held = s.held;
          is_module = s.is_module;
          frames = (
            subst (λ c. IsFrameKnown m.table ms ds c f) (sym same) (known m.table ms outer binding),
            AreFramesKnown-Keeps m.table m.table (Keeps-refl m.table) ns ms j ds fs s.frames,
          );
          head = IsHeadKnown-Keeps m.table m.table (Keeps-refl m.table) ns ms j h s.head;
          meanings = λ x.
              puts.each x
              ∙ ap (λ (v : Meaning). if bytes_eq x (name_at ns n) then meaning.Binder b else v) (s.meanings x)
              ∙ ap (λ d. if bytes_eq x (name_at ns n) then meaning.Binder d else bound ds outer x) s.depth
              ∙ ap (λ c. bound ds c x) (sym one);
          empty = (omega (arith, j.longer, s.empty.0), j.stays z s.empty.0 ∙ s.empty.1);
          depth = omega (arith, s.depth, ap length one);
          few = omega (arith, s.few);
          atoms = s.atoms;
        }

    -- and closes: its name means again what it hid
    out_by : (f : Frame) (w : Meaning) (b2 : ℕ) (x : List ℕ) (t : Bool) → bytes_eq x (name_at ns n) ≡ t → w ≡ bound ds outer (name_at ns n) → looked ns x
        ≡ bound ds (name_at ns n ∷ outer) x → (if t then w else looked ns x) ≡ bound ds outer x
    out_by f w b2 x true e hides means = hides ∙ ap (bound ds outer) (sym (same_text x (name_at ns n) (sym e)))
    out_by f w b2 x false e hides means = means ∙ ap (λ (c : Bool). if c then meaning.Binder (length outer) else bound ds outer x) e

    pub bind_out : (f : Frame) (a : LpId) (w : Meaning) → IsBinding m.table ns ds outer n a w → reading.scope_of (frames_in m.table ns (f ∷ fs))
        ≡ name_at ns n ∷ outer → Puts ns (name_at ns n) w ms → IsSoundIn m ns z vs b h (f ∷ fs) → IsSoundIn m ms z vs (b - 1) h fs
    bind_out f a w binding one puts s =
        let same = outer-Keeps s.frames.1 in
        let depth : b - 1 ≡ length outer = omega (arith, s.depth, ap length one) in
        record {
          held = s.held;
          is_module = s.is_module;
          frames = AreFramesKnown-Keeps m.table m.table (Keeps-refl m.table) ns ms j ds fs s.frames.1;
          head = IsHeadKnown-Keeps m.table m.table (Keeps-refl m.table) ns ms j h s.head;
          meanings = λ x.
              puts.each x
              ∙ out_by f w b x (bytes_eq x (name_at ns n)) refl binding.hides (s.meanings x ∙ ap (λ c. bound ds c x) one)
              ∙ ap (λ c. bound ds c x) (sym same);
          empty = (omega (arith, j.longer, s.empty.0), j.stays z s.empty.0 ∙ s.empty.1);
          depth = depth ∙ ap length (sym same);
          few = omega (arith, depth, scope_length m.table ns fs);
          atoms = s.atoms;
        }

-- the meaning of a symbol's name where one more symbol is declared
last_of_one : (k : ℕ) (t : Bool) → symbol_meaning (option_map (λ n. k + n) (cond t (Some 0) (option_map suc None)))
    ≡ (if t then meaning.Symbol k else meaning.Nothing)
last_of_one k true = ap meaning.Symbol (omega arith)
last_of_one k false = refl

module _ (p : Declaration → Bool) where
  last_by : (ds : List Declaration) (d : Declaration) (o : Option ℕ) → first p ds ≡ o → symbol_meaning (first p (ds ++ d ∷ []))
      ≡ first_meaning (symbol_meaning o) (if p d then meaning.Symbol (length ds) else meaning.Nothing)
  last_by ds d (Some n) e = ap symbol_meaning (first-append-Some p ds (d ∷ []) n e)
  last_by ds d None e = ap symbol_meaning (first-append-None p ds (d ∷ []) e) ∙ last_of_one (length ds) (p d)

  pub position_last : (ds : List Declaration) (d : Declaration) → symbol_meaning (position p (ds ++ d ∷ []))
      ≡ first_meaning (symbol_meaning (position p ds)) (if p d then meaning.Symbol (length ds) else meaning.Nothing)
  position_last ds d =
      ap symbol_meaning (position-first p (ds ++ d ∷ [])) ∙ last_by ds d (first p ds) refl
      ∙ ap (λ o. first_meaning (symbol_meaning o) (if p d then meaning.Symbol (length ds) else meaning.Nothing)) (sym (position-first p ds))

  none_by : (ds : List Declaration) (o : Option ℕ) → list_any p ds ≡ false → position p ds ≡ o → o ≡ None
  none_by ds None e f = refl
  none_by ds (Some n) e f =
      let none = symbol [] SortType in
      let t = position-Some p ds n none f in
      absurd (cc (not_any p ds n none e t.0, t.1))

  pub position_none : (ds : List Declaration) → list_any p ds ≡ false → position p ds ≡ None
  position_none ds e = none_by ds (position p ds) e refl

first_nothing : (v : Meaning) → first_meaning v meaning.Nothing ≡ v
first_nothing meaning.Nothing = refl
first_nothing (meaning.Symbol s) = refl
first_nothing (meaning.Binder d) = refl

module _ (m m2 : Module) (ns ms : List Named) (z : ℕ) (vs : Atoms) (b : ℕ) (h : Head) (j : naming.Keeps ns ms) (n : ℕ) (d : Declaration)
    (is : d.name ≡ name_at ns n) where
  declared_by : (x : List ℕ) (t : Bool) (v : Meaning) → bytes_eq x (name_at ns n) ≡ t → IsFalse (is_declared (signature ++ declarations_of m) d.name) → v
      ≡ bound (signature ++ declarations_of m) [] x
      → (if t then meaning.Symbol (length (signature ++ declarations_of m)) else v) ≡ bound ((signature ++ declarations_of m) ++ d ∷ []) [] x
  declared_by x true v e new f =
      let same : x ≡ d.name = same_text x (name_at ns n) (sym e) ∙ sym is in
      let none : position (λ y. bytes_eq y.name x) (signature ++ declarations_of m) ≡ None =
      position_none (λ y. bytes_eq y.name x) (signature ++ declarations_of m)
      (subst (λ w. is_declared (signature ++ declarations_of m) w ≡ false) (sym same) new) in
      let here : bytes_eq d.name x ≡ true = subst (λ w. bytes_eq d.name w ≡ true) (sym same) (bytes_eq-refl d.name) in
      sym (position_last (λ y. bytes_eq y.name x) (signature ++ declarations_of m) d
      ∙ ap (λ o. first_meaning (symbol_meaning o) (if bytes_eq d.name x then meaning.Symbol (length (signature ++ declarations_of m)) else meaning.Nothing))
      none
      ∙ ap (λ (c : Bool). if c then meaning.Symbol (length (signature ++ declarations_of m)) else meaning.Nothing) here)
  declared_by x false v e new f =
      let past : bytes_eq d.name x ≡ false = ap (λ w. bytes_eq w x) is ∙ bytes_eq-symm (name_at ns n) x ∙ e in
      f ∙ sym (position_last (λ y. bytes_eq y.name x) (signature ++ declarations_of m) d
      ∙ ap (λ (c : Bool). first_meaning (symbol_meaning (position (λ y. bytes_eq y.name x) (signature ++ declarations_of m)))
      (if c then meaning.Symbol (length (signature ++ declarations_of m)) else meaning.Nothing)) past
      ∙ first_nothing (symbol_meaning (position (λ y. bytes_eq y.name x) (signature ++ declarations_of m))))

  -- a declaration ends
  pub declared_in : m2.table ≡ m.table → IsHeld m2 → IsModule (declarations_of m2) → declarations_of m2 ≡ declarations_of m ++ d ∷ []
      → IsFalse (is_declared (signature ++ declarations_of m) d.name) → (s : ℕ) → s ≡ length (signature ++ declarations_of m)
      → Puts ns (name_at ns n) (meaning.Symbol s) ms → IsSoundIn m ns z vs b h [] → IsSoundIn m2 ms z vs b h []
  declared_in table held module_is declared new s number puts k =
      let all : signature ++ declarations_of m2 ≡ (signature ++ declarations_of m) ++ d ∷ [] =
      ap (λ l. signature ++ l) declared ∙ sym (append_assoc signature (declarations_of m) (d ∷ [])) in
      record {
        held = held;
        is_module = module_is;
        frames = tt;
        head = subst (λ t. IsHeadKnown t ms h) (sym table) (IsHeadKnown-Keeps m.table m.table (Keeps-refl m.table) ns ms j h k.head);
        meanings = λ x.
            puts.each x
            ∙ ap (λ i. if bytes_eq x (name_at ns n) then meaning.Symbol i else looked ns x) number
            ∙ declared_by x (bytes_eq x (name_at ns n)) (looked ns x) refl new (k.meanings x)
            ∙ ap (λ l. bound l [] x) (sym all);
        empty = (omega (arith, j.longer, k.empty.0), j.stays z k.empty.0 ∙ k.empty.1);
        depth = k.depth;
        few = k.few;
        atoms = subst (λ t. AreAtoms t vs) (sym table) k.atoms;
      }

-- the frames of a list that gets one more, or loses its last
pub reverse_last : (fs : List Frame) (f : Frame) → reverse (fs ++ f ∷ []) ≡ f ∷ reverse fs
reverse_last fs f = reverse-append fs (f ∷ [])

last_split : (x : Frame) (xs : List Frame) (f : Frame) → slice_get (x ∷ xs) (length xs) ≡ Some f → x ∷ xs ≡ take (length xs) (x ∷ xs) ++ f ∷ []
last_split x [] f e = ap (λ y. y ∷ []) (same_Some x f e)
last_split x (y ∷ ys) f e = ap (λ l. x ∷ l) (last_split y ys f e)

split_last : (old new : List Frame) (f : Frame) → new ≡ take (length old - 1) old → slice_get old (length old - 1) ≡ Some f → reverse old ≡ f ∷ reverse new
split_last [] new f e h = absurd (cc)
split_last (x ∷ xs) new f e h =
    let at : length (x ∷ xs) - 1 ≡ length xs = omega arith in
    ap reverse (last_split x xs f (ap (slice_get (x ∷ xs)) (sym at) ∙ h) ∙ ap (λ k. take k (x ∷ xs) ++ f ∷ []) (sym at) ∙ ap (λ l. l ++ f ∷ []) (sym e))
    ∙ reverse_last new f

pub popped : (old new seen : List Frame) (k : ℕ) (f : Frame) → seen ≡ old → k ≡ length old → new ≡ take (k - 1) old → slice_get seen (length seen - 1) ≡ Some f
    → reverse old ≡ f ∷ reverse new
popped old new seen k f same count e h =
    split_last old new f (e ∙ ap (λ i. take (i - 1) old) count) (ap (λ l. slice_get l (length l - 1)) (sym same) ∙ h)

-- a binder that closes leaves the frames outside
pub binds_out : (ts : List Tree) (ns ms : List Named) (j : naming.Keeps ns ms) (ds : List Declaration) (fs all : List Frame) (f : Frame) (b : Binder)
    (name : List ℕ) → frame_in ts ns f ≡ bound_frame ts b name → AreFramesKnown ts ns ds fs → all ≡ f ∷ fs
    → Binds (frames_in ts ns all) ts b (frames_in ts ms fs)
binds_out ts ns ms j ds fs all f b name e k same = record {
  name = name;
  is = ap (frames_in ts ns) same ∙ ap (λ x. x ∷ frames_in ts ns fs) e
      ∙ ap (λ l. bound_frame ts b name ∷ l) (sym (frames_in-Keeps ts ts (Keeps-refl ts) ns ms j ds fs k));
}

-- and one that opens adds its own
pub binds_in : (ts : List Tree) (ns ms : List Named) (j : naming.Keeps ns ms) (ds : List Declaration) (fs all : List Frame) (f : Frame) (x : reading.Frame)
    → frame_in ts ms f ≡ x → AreFramesKnown ts ns ds fs → all ≡ f ∷ fs → frames_in ts ms all ≡ x ∷ frames_in ts ns fs
binds_in ts ns ms j ds fs all f x e k same = ap (frames_in ts ms) same ∙ cc (e, frames_in-Keeps ts ts (Keeps-refl ts) ns ms j ds fs k)
