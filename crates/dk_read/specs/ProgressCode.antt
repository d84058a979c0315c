-- A code of what a reading has come to, by which a proof tells its values apart.
use Rattle.std.specs.Prelude.{◌≡◌, ℕ, zero, suc, List, Option, refl}
use Rattle.std.specs.Coded.{code_by, coded×, coded_list, coded_option, coded_ℕ}
use base.Stored.{Coded, Gv, gnum, gcons}
use Rattle.lp_spec.specs.declared.form.Form.{Form}
use Rattle.lp_spec.specs.declared.form.Form.TheVariants.{Symbol, Def, Thm}
use Rattle.lp_spec.specs.Trees.{Tree}
use Rattle.lp_spec.specs.TreeCode.{coded_tree}
use Rattle.lp_spec.specs.Modules.{Declaration}
use Rattle.lp_spec.specs.Tokens as tokens
use Rattle.lp_spec.specs.ReadingFaults as reading

abbrev pub coded_bytes : Coded (List ℕ)
coded_bytes = coded_list coded_ℕ

abbrev form_number : Form → ℕ
form_number Symbol = 0
form_number Def = 1
form_number Thm = 2

abbrev form_of : ℕ → Form
form_of zero = Symbol
form_of (suc zero) = Def
form_of (suc (suc n)) = Thm

pub form_of-number : (form : Form) → form_of (form_number form) ≡ form
form_of-number Symbol = refl
form_of-number Def = refl
form_of-number Thm = refl

abbrev pub coded_form : Coded Form
coded_form = code_by ℕ coded_ℕ form_number form_of form_of-number

abbrev coded_declaration : Coded Declaration
coded_declaration =
    code_by ((List ℕ × Form) × (Tree × Option Tree)) (coded× (coded× coded_bytes coded_form) (coded× coded_tree (coded_option coded_tree)))
    (λ d. ((d.name, d.form), (d.ty, d.body)))
    (λ p. record { name = p.0.0; form = p.0.1; ty = p.1.0; body = p.1.1 })
    (λ _. refl)

pub pending_code : tokens.Pending → Gv
pending_code tokens.Nothing = gcons (gnum 0) (gnum 0)
pending_code (tokens.InWord q bytes) = gcons (gnum 1) (gcons (gnum q) (coded_bytes.code bytes))
pending_code (tokens.AfterColon q) = gcons (gnum 2) (gnum q)
pending_code (tokens.AfterMinus q) = gcons (gnum 3) (gnum q)
pending_code (tokens.AfterEquals q) = gcons (gnum 4) (gnum q)
pending_code (tokens.AfterParen q) = gcons (gnum 5) (gnum q)
pending_code (tokens.InComment q) = gcons (gnum 6) (gnum q)
pending_code (tokens.AfterSemicolon q) = gcons (gnum 7) (gnum q)

pub pending_inj : (x y : tokens.Pending) → pending_code x ≡ pending_code y → x ≡ y
unfolding pending_code
pending_inj (tokens.InWord q a) (tokens.InWord r b) e = let f : a ≡ b = coded_bytes.inj a b (cc) in cc
pending_inj tokens.Nothing tokens.Nothing e = refl
pending_inj (tokens.AfterColon q) (tokens.AfterColon r) e = cc
pending_inj (tokens.AfterMinus q) (tokens.AfterMinus r) e = cc
pending_inj (tokens.AfterEquals q) (tokens.AfterEquals r) e = cc
pending_inj (tokens.AfterParen q) (tokens.AfterParen r) e = cc
pending_inj (tokens.InComment q) (tokens.InComment r) e = cc
pending_inj (tokens.AfterSemicolon q) (tokens.AfterSemicolon r) e = cc
pending_inj x y e = cc

abbrev coded_pending : Coded tokens.Pending
coded_pending = record { code = pending_code; inj = pending_inj }

pub fault_code : reading.Fault → Gv
fault_code reading.NoPrelude = gcons (gnum 0) (gnum 0)
fault_code reading.BadText = gcons (gnum 1) (gnum 0)
fault_code (reading.UnknownName name) = gcons (gnum 2) (coded_bytes.code name)
fault_code (reading.NameTwice name) = gcons (gnum 3) (coded_bytes.code name)
fault_code reading.DkTooDeep = gcons (gnum 4) (gnum 0)
fault_code reading.DkTooLong = gcons (gnum 5) (gnum 0)

pub fault_inj : (x y : reading.Fault) → fault_code x ≡ fault_code y → x ≡ y
unfolding fault_code
fault_inj (reading.UnknownName a) (reading.UnknownName b) e = let f : a ≡ b = coded_bytes.inj a b (cc) in cc
fault_inj (reading.NameTwice a) (reading.NameTwice b) e = let f : a ≡ b = coded_bytes.inj a b (cc) in cc
fault_inj reading.NoPrelude reading.NoPrelude e = refl
fault_inj reading.BadText reading.BadText e = refl
fault_inj reading.DkTooDeep reading.DkTooDeep e = refl
fault_inj reading.DkTooLong reading.DkTooLong e = refl
fault_inj x y e = cc

abbrev pub coded_fault : Coded reading.Fault
coded_fault = record { code = fault_code; inj = fault_inj }

abbrev coded_refusal : Coded reading.Refusal
coded_refusal = code_by (ℕ × reading.Fault) (coded× coded_ℕ coded_fault) (λ r. (r.place, r.fault)) (λ p. record { place = p.0; fault = p.1 }) (λ _. refl)

abbrev coded_function : Coded (Option Tree)
coded_function = coded_option coded_tree

pub frame_code : reading.Frame → Gv
frame_code (reading.Enclosing f) = gcons (gnum 0) (coded_function.code f)
frame_code (reading.Domain name) = gcons (gnum 1) (coded_bytes.code name)
frame_code (reading.Product name a) = gcons (gnum 2) (gcons (coded_bytes.code name) (coded_tree.code a))
frame_code (reading.Abstraction name a) = gcons (gnum 3) (gcons (coded_bytes.code name) (coded_tree.code a))

pub frame_inj : (x y : reading.Frame) → frame_code x ≡ frame_code y → x ≡ y
unfolding frame_code
frame_inj (reading.Enclosing a) (reading.Enclosing b) e = let f : a ≡ b = coded_function.inj a b (cc) in cc
frame_inj (reading.Domain a) (reading.Domain b) e = let f : a ≡ b = coded_bytes.inj a b (cc) in cc
frame_inj (reading.Product n a) (reading.Product m b) e = let f : n ≡ m = coded_bytes.inj n m (cc) in let g : a ≡ b = coded_tree.inj a b (cc) in cc
frame_inj (reading.Abstraction n a) (reading.Abstraction m b) e = let f : n ≡ m = coded_bytes.inj n m (cc) in let g : a ≡ b = coded_tree.inj a b (cc) in cc
frame_inj x y e = cc

abbrev coded_frames : Coded (List reading.Frame)
coded_frames = coded_list (record { code = frame_code; inj = frame_inj })

pub head_code : reading.Head → Gv
head_code (reading.TypeOf form name) = gcons (gnum 0) (gcons (coded_form.code form) (coded_bytes.code name))
head_code (reading.BodyOf form name ty) = gcons (gnum 1) (gcons (gcons (coded_form.code form) (coded_bytes.code name)) (coded_tree.code ty))

pub head_inj : (x y : reading.Head) → head_code x ≡ head_code y → x ≡ y
unfolding head_code
head_inj (reading.TypeOf g n) (reading.TypeOf h m) e = let f : g ≡ h = coded_form.inj g h (cc) in let i : n ≡ m = coded_bytes.inj n m (cc) in cc
head_inj (reading.BodyOf g n a) (reading.BodyOf h m b) e =
    let f : g ≡ h = coded_form.inj g h (cc) in let i : n ≡ m = coded_bytes.inj n m (cc) in let j : a ≡ b = coded_tree.inj a b (cc) in cc
head_inj x y e = cc

abbrev coded_head : Coded reading.Head
coded_head = record { code = head_code; inj = head_inj }

pub state_code : reading.State → Gv
state_code reading.Between = gcons (gnum 0) (gnum 0)
state_code (reading.AfterKeyword form) = gcons (gnum 1) (coded_form.code form)
state_code (reading.AfterName form name) = gcons (gnum 2) (gcons (coded_form.code form) (coded_bytes.code name))
state_code (reading.AtTerm head frames) = gcons (gnum 3) (gcons (coded_head.code head) (coded_frames.code frames))
state_code (reading.AfterFirst head frames p name) =
    gcons (gnum 4) (gcons (gcons (coded_head.code head) (coded_frames.code frames)) (gcons (gnum p) (coded_bytes.code name)))
state_code (reading.InApplication head frames f) = gcons (gnum 5) (gcons (gcons (coded_head.code head) (coded_frames.code frames)) (coded_function.code f))

pub state_inj : (x y : reading.State) → state_code x ≡ state_code y → x ≡ y
unfolding state_code
state_inj (reading.AfterKeyword g) (reading.AfterKeyword h) e = let f : g ≡ h = coded_form.inj g h (cc) in cc
state_inj (reading.AfterName g n) (reading.AfterName h m) e = let f : g ≡ h = coded_form.inj g h (cc) in let i : n ≡ m = coded_bytes.inj n m (cc) in cc
state_inj (reading.AtTerm g fs) (reading.AtTerm h gs) e = let f : g ≡ h = coded_head.inj g h (cc) in let k : fs ≡ gs = coded_frames.inj fs gs (cc) in cc
state_inj (reading.AfterFirst g fs p n) (reading.AfterFirst h gs q m) e =
    let f : g ≡ h = coded_head.inj g h (cc) in let k : fs ≡ gs = coded_frames.inj fs gs (cc) in let i : n ≡ m = coded_bytes.inj n m (cc) in cc
state_inj (reading.InApplication g fs a) (reading.InApplication h gs b) e =
    let f : g ≡ h = coded_head.inj g h (cc) in let k : fs ≡ gs = coded_frames.inj fs gs (cc) in let i : a ≡ b = coded_function.inj a b (cc) in cc
state_inj reading.Between reading.Between e = refl
state_inj x y e = cc

abbrev coded_state : Coded reading.State
coded_state = record { code = state_code; inj = state_inj }

abbrev coded_declarations : Coded (List Declaration)
coded_declarations = coded_list coded_declaration

pub progress_code : reading.Progress → Gv
progress_code (reading.Opening p wanted) = gcons (gnum 0) (gcons (gnum p) (coded_bytes.code wanted))
progress_code (reading.Inside p pending m state) =
    gcons (gnum 1) (gcons (gnum p) (gcons (coded_pending.code pending) (gcons (coded_declarations.code m) (coded_state.code state))))
progress_code (reading.Refused r) = gcons (gnum 2) (coded_refusal.code r)

pub progress_inj : (x y : reading.Progress) → progress_code x ≡ progress_code y → x ≡ y
unfolding progress_code
progress_inj (reading.Opening p a) (reading.Opening q b) e = let f : a ≡ b = coded_bytes.inj a b (cc) in cc
progress_inj (reading.Inside p a m s) (reading.Inside q b n t) e =
    let f : a ≡ b = coded_pending.inj a b (cc) in let i : m ≡ n = coded_declarations.inj m n (cc) in let j : s ≡ t = coded_state.inj s t (cc) in cc
progress_inj (reading.Refused a) (reading.Refused b) e = let f : a ≡ b = coded_refusal.inj a b (cc) in cc
progress_inj x y e = cc

abbrev pub coded_progress : Coded reading.Progress
coded_progress = record { code = progress_code; inj = progress_inj }
