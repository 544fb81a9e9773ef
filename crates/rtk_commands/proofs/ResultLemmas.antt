-- What is said of the answer of a call, once it is known what the call answered.
use Rattle.std.proofs.Common.{◌≡◌, ◌≢◌, Bool, true, false, Result, Ok, Err, OnOk, OnErr, sym, ◌∙◌}
use Rattle.std.specs.Prelude.{is_err}

err-not-ok : {T E : Type 0} (fault : E) (x : T) → Err fault ≢ Ok x
err-not-ok fault x e = cc

true-not-false : true ≢ false
true-not-false e = cc

-- what is said of a call that is done, of one that failed, and of one that did not fail
pub if-done : {T E : Type 0} (r : Result T E) {x : T} {A : Type 0} → r ≡ Ok x → OnOk r A → A
if-done (Ok y) e a = a
if-done (Err fault) {x} e a = absurd (err-not-ok fault x e)

pub if-failed : {T E : Type 0} (r : Result T E) {fault : E} {A : Type 0} → r ≡ Err fault → OnErr r A → A
if-failed (Ok x) {fault} e a = absurd (err-not-ok fault x (sym e))
if-failed (Err other) e a = a

pub if-not-failed : {T E : Type 0} (r : Result T E) {A : Type 0} (failed : Bool) → failed ≡ is_err r → failed ≡ false → OnOk r A → A
if-not-failed (Ok x) failed e done a = a
if-not-failed (Err fault) failed e done a = absurd (true-not-false (sym e ∙ done))

pub on_ok-map : {T E : Type 0} (r : Result T E) {P Q : Type 0} → (P → Q) → OnOk r P → OnOk r Q
on_ok-map (Ok x) f p = f p
on_ok-map (Err e) f p = tt

pub on_err-map : {T E : Type 0} (r : Result T E) {P Q : Type 0} → (P → Q) → OnErr r P → OnErr r Q
on_err-map (Ok x) f p = tt
on_err-map (Err e) f p = f p
