-- The tags of certificates are those that name a kind.
use Rattle.std.proofs.Common.{◌≡◌, ℕ, true, false, Result, Ok, Err, refl, ap, sym, ◌∙◌, arith}
use Rattle.std.specs.Prelude.{is_ok, eqb}
use Rattle.std.proofs.lemmas.Bool.{ne_eqb}
use Rattle.fields.specs.Certificates.{certificate_tag, IsKind}
use Rattle.fields.specs.declared.certificate.CertificateKind.{CertificateKind}
use Rattle.fields.specs.declared.certificate.CertificateKind.TheVariants.{Schedule, Multipliers}
use Rattle.fields.specs.declared.fault.FaultKind.{FaultKind}
use Rattle.inputs.specs.Parts.{is_certificate_tag}

pub names_kind : (t : ℕ) (r : Result CertificateKind FaultKind) → IsKind t r → is_ok r ≡ is_certificate_tag t
names_kind t (Ok Schedule) e = sym (ap is_certificate_tag e)
names_kind t (Ok Multipliers) e = sym (ap is_certificate_tag e)
names_kind t (Err k) e = sym (neither t (λ p. e.1 Schedule p) (λ p. e.1 Multipliers p))
  where
    neither : (t : ℕ) → (t ≡ 20 → ⊥) → (t ≡ 21 → ⊥) → is_certificate_tag t ≡ false
    neither t p q = rw (ne_eqb t 20 p, ne_eqb t 21 q) refl
