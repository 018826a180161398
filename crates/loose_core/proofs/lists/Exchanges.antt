-- One box: entries change places, and the entries that a test picks come to the front.
use Rattle.std.proofs.Common.{◌≡◌, List, [], ◌∷◌, ◌++◌, Bool, true, false, cond, not, refl}
use Rattle.std.specs.List.{AllByRecursion, filter}
use Rattle.step_journal.specs.Histories.{IsLegal as Legal}
use Rattle.loose_core.proofs.lists.Words.{Pairs, Exchanges, IsIdle}

-- an entry moves past those with which it may change places
pub move_past : {E V : Type 0} (does : E → V → V → Type 0) (e : E) (fs gs : List E) (v w : V) →
    AllByRecursion (Exchanges does e) fs → Legal does v (e ∷ (fs ++ gs)) w → Legal does v (fs ++ (e ∷ gs)) w
move_past does e [] gs v w all legal = legal
move_past does e (f ∷ fs) gs v w all legal =
    let x = all.0 v legal.0 legal.2.0 legal.1 legal.2.1 in
    (x.0, x.1, move_past does e fs gs x.0 w all.1 (legal.2.0, x.2, legal.2.2))

-- an entry takes its place before those that are left, or after those that are picked
place : {E V : Type 0} (does : E → V → V → Type 0) (e : E) (fs gs : List E) (v w : V) (b : Bool) →
    (b ≡ false → AllByRecursion (Exchanges does e) fs) → Legal does v (e ∷ (fs ++ gs)) w →
    Legal does v (cond b (e ∷ fs) fs ++ cond (not b) (e ∷ gs) gs) w
place does e fs gs v w true all legal = legal
place does e fs gs v w false all legal = move_past does e fs gs v w (all refl) legal

-- what holds of an element that passes
All-cond : {E : Type 0} (P : E → Type 0) (b : Bool) (e : E) (fs : List E) → (b ≡ true → P e) →
    AllByRecursion P fs → AllByRecursion P (cond b (e ∷ fs) fs)
All-cond P true e fs p all = (p refl, all)
All-cond P false e fs p all = all

-- what holds of each element that passes holds of each that is kept
pub All-picked : {E : Type 0} (P : E → Type 0) (test : E → Bool) (es : List E) → AllByRecursion (λ e. test e
    ≡ true → P e) es → AllByRecursion P (filter test es)
All-picked P test [] all = tt
All-picked P test (e ∷ es) all = All-cond P (test e) e (filter test es) all.0 (All-picked P test es all.1)

-- a weaker fact of each element
pub All-weak : {E : Type 0} (P Q : E → Type 0) (es : List E) → ((e : E) → P e → Q e) → AllByRecursion P es →
    AllByRecursion Q es
All-weak P Q [] f all = tt
All-weak P Q (e ∷ es) f all = (f e all.0, All-weak P Q es f all.1)

-- what holds of each holds of each that is kept
pub All-filter : {E : Type 0} (P : E → Type 0) (test : E → Bool) (es : List E) → AllByRecursion P es →
    AllByRecursion P (filter test es)
All-filter P test es all = All-picked P test es (All-weak P (λ e. test e ≡ true → P e) es (λ e p h. p) all)

-- what holds of each two with an element that passes
Pairs-cond : {E : Type 0} (R : E → E → Type 0) (b : Bool) (e : E) (fs : List E) → AllByRecursion (R e) fs →
    Pairs R fs → Pairs R (cond b (e ∷ fs) fs)
Pairs-cond R true e fs all pairs = (all, pairs)
Pairs-cond R false e fs all pairs = pairs

-- what holds of each two holds of each two that are kept
pub Pairs-filter : {E : Type 0} (R : E → E → Type 0) (test : E → Bool) (es : List E) → Pairs R es →
    Pairs R (filter test es)
Pairs-filter R test [] pairs = tt
Pairs-filter R test (e ∷ es) pairs =
    Pairs-cond R (test e) e (filter test es) (All-filter (R e) test es pairs.0)
    (Pairs-filter R test es pairs.1)

-- the picked entries come first where each that is left may change places with each picked one after it
pub picked_first : {E V : Type 0} (does : E → V → V → Type 0) (test : E → Bool) (es : List E) (v w : V) →
    Pairs (λ e f. test e ≡ false → test f ≡ true → Exchanges does e f) es → Legal does v es w →
    Legal does v (filter test es ++ filter (λ e. not (test e)) es) w
picked_first does test [] v w pairs legal = legal
picked_first does test (e ∷ es) v w pairs legal =
    place does e (filter test es) (filter (λ x. not (test x)) es) v w (test e)
    (λ off. All-picked (Exchanges does e) test es (All-weak (λ f. test e ≡ false → test f ≡ true →
    Exchanges does e f) (λ f. test f ≡ true → Exchanges does e f) es (λ f h. h off) pairs.0))
    (legal.0, legal.1, picked_first does test es legal.0 w pairs.1 legal.2)

-- a legal history of two lists is one of each
pub Legal-append : {E V : Type 0} (does : E → V → V → Type 0) (es fs : List E) (v w : V) →
    Legal does v (es ++ fs) w → (u : V) × Legal does v es u × Legal does u fs w
Legal-append does [] fs v w legal = (v, refl, legal)
Legal-append does (e ∷ es) fs v w legal =
    let x = Legal-append does es fs legal.0 w legal.2 in
    (x.0, (legal.0, legal.1, x.1), x.2)

-- an entry that changes nothing is left out
drop_one : {E V : Type 0} (does : E → V → V → Type 0) (e : E) (fs : List E) (v u w : V) (b : Bool) →
    (b ≡ false → IsIdle does e) → does e v u → Legal does u fs w → Legal does v (cond b (e ∷ fs) fs) w
drop_one does e fs v u w true idle d legal = (u, d, legal)
drop_one does e fs v u w false idle d legal = rw (idle refl v u d) legal

-- entries that change nothing may be left out
pub idle_dropped : {E V : Type 0} (does : E → V → V → Type 0) (test : E → Bool) (es : List E) (v w : V) →
    AllByRecursion (λ e. test e ≡ false → IsIdle does e) es → Legal does v es w →
    Legal does v (filter test es) w
idle_dropped does test [] v w idle legal = legal
idle_dropped does test (e ∷ es) v w idle legal =
    drop_one does e (filter test es) v legal.0 w (test e) idle.0 legal.1 (idle_dropped does test es legal.0
    w idle.1 legal.2)
