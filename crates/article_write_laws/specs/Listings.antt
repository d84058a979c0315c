-- What is pushed one after the other becomes a list by `nil` and a `cons` for each.
use Rattle.std.proofs.Common.{◌≡◌, ℕ, zero, suc, List, [], ◌∷◌, map, length, Result, Ok, refl, sym, ap, subst, ◌∙◌}
use Rattle.std.specs.List.{AllByRecursion}
use Rattle.common.specs.declared.faults.Kind.{Kind}
use Rattle.hol_spec.specs.Proofs.{Made}
use Rattle.article_spec.specs.declared.commands.Item.TheVariants as item
use Rattle.article_spec.specs.declared.commands.Word.TheVariants as word
use Rattle.article_spec.specs.State.{Object, Objects, list, none, more}
use Rattle.article_spec.specs.Results.{◌>>=◌}
use Rattle.article_spec.specs.Operands.{each}
use Rattle.article_write_spec.specs.Drafts.{Kept, Draft, say_word, conses, write_each, write_list, write_pair}
use Rattle.article_write_laws.specs.Scenes.{Scene, Ready, Wrote, wrote-none, wrote-then, wrote-said}

-- objects pushed in order, and in order before a list
abbrev pub pushed : List Object → List Object → List Object
pushed [] stack = stack
pushed (x ∷ xs) stack = pushed xs (x ∷ stack)

abbrev pub listing : List Object → Objects → Objects
listing [] tail = tail
listing (x ∷ xs) tail = more x (listing xs tail)

conses-suc : (k : ℕ) (d : Draft) → conses (suc k) d ≡ say_word word.Cons (conses k d)
conses-suc zero d = refl
conses-suc (suc k) d = conses-suc k (say_word word.Cons d)

pub wrote-conses : {c : Scene} {kept : List Kept} {made : List Made} {d : Draft} {stack : List Object} (xs : List Object) (tail : Objects)
    → Wrote c kept made d (list tail ∷ pushed xs stack) → Wrote c kept made (conses (length xs) d) (list (listing xs tail) ∷ stack)
wrote-conses [] tail w = w
wrote-conses {c = c} {kept = kept} {made = made} {d = d} {stack = stack} (x ∷ xs) tail w =
    subst (λ e. Wrote c kept made e (list (listing (x ∷ xs) tail) ∷ stack)) (sym (conses-suc (length xs) d))
    (wrote-said (item.Word word.Cons) (wrote-conses {stack = x ∷ stack} xs tail w) (λ m e. refl))

pub wrote-nil : {c : Scene} {kept : List Kept} {made : List Made} {d : Draft} {stack : List Object} → Wrote c kept made d stack
    → Wrote c kept made (say_word word.Nil d) (list none ∷ stack)
wrote-nil w = wrote-said (item.Word word.Nil) w (λ m e. refl)

-- a list of pushed objects
pub wrote-list : {c : Scene} {kept : List Kept} {made : List Made} {d : Draft} {stack : List Object} (xs : List Object)
    → Wrote c kept made d (pushed xs stack) → Wrote c kept made (conses (length xs) (say_word word.Nil d)) (list (listing xs none) ∷ stack)
wrote-list xs w = wrote-conses xs none (wrote-nil w)

-- what writes an object, wherever it stands
abbrev pub Writes : Scene → (Draft → Draft) → Object → Type 0
Writes c write x = (d : Draft) (made : List Made) (stack : List Object) → Ready c d made stack → Wrote c d.kept made (write d) (x ∷ stack)

pub writes-each : {A : Type 0} (c : Scene) (write : A → Draft → Draft) (object : A → Object) (P : A → Type 0) → ((x : A) → P x → Writes c (write x) (object x))
    → (xs : List A) → AllByRecursion P xs → (d : Draft) (made : List Made) (stack : List Object) → Ready c d made stack
    → Wrote c d.kept made (write_each write xs d) (pushed (map object xs) stack)
writes-each c write object P one [] h d made stack r = wrote-none r
writes-each c write object P one (x ∷ xs) h d made stack r =
    wrote-then (one x h.0 d made stack r) (λ m s. writes-each c write object P one xs h.1 (write x d) m (object x ∷ stack) s)

length-mapped : {A B : Type 0} (f : A → B) (xs : List A) → length (map f xs) ≡ length xs
length-mapped f [] = refl
length-mapped f (x ∷ xs) = ap suc (length-mapped f xs)

pub writes-list : {A : Type 0} (c : Scene) (write : A → Draft → Draft) (object : A → Object) (P : A → Type 0) → ((x : A) → P x → Writes c (write x) (object x))
    → (xs : List A) → AllByRecursion P xs → Writes c (write_list write xs) (list (listing (map object xs) none))
writes-list c write object P one xs h d made stack r =
    subst (λ k. Wrote c d.kept made (conses k (say_word word.Nil (write_each write xs d))) (list (listing (map object xs) none) ∷ stack))
    (length-mapped object xs)
    (wrote-list (map object xs) (writes-each c write object P one xs h d made stack r))

pub writes-pair : (c : Scene) (one two : Draft → Draft) (x y : Object) → Writes c one x → Writes c two y
    → Writes c (write_pair one two) (list (more x (more y none)))
writes-pair c one two x y f g d made stack r = wrote-list (x ∷ y ∷ []) (wrote-then (f d made stack r) (λ m s. g (one d) m (x ∷ stack) s))

-- such a list is read as its elements
pub each-listing : {A : Type 0} (as_one : Object → Result A Kind) (object : A → Object) → ((x : A) → as_one (object x) ≡ Ok x) → (xs : List A)
    → each as_one (listing (map object xs) none) ≡ Ok xs
each-listing as_one object f [] = refl
each-listing as_one object f (x ∷ xs) =
    ap (λ r. r >>= (λ first. each as_one (listing (map object xs) none) >>= (λ rest. Ok (first ∷ rest)))) (f x)
    ∙ ap (λ r. r >>= (λ rest. Ok (x ∷ rest))) (each-listing as_one object f xs)
