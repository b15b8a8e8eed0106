-- Determinism of the public contracts: any two outcomes that one allows, the answer or the lent bytes, are equal, since each is one equation. Stated over the contract itself, so it changes with the contract.
use mathlib.Core.Path.{◌∙◌, sym}
use Rattle.promises.specs.Determined.{Determined}
use Rattle.little_endian.proofs.f32_of.Reads as f32-of
use Rattle.little_endian.proofs.f64_of.Reads as f64-of
use Rattle.little_endian.proofs.bits32.Reads as bits32
use Rattle.little_endian.proofs.bits64.Reads as bits64
use Rattle.little_endian.proofs.u32_at.Reads as u32-at
use Rattle.little_endian.proofs.u64_at.Reads as u64-at
use Rattle.little_endian.proofs.f32_at.Reads as f32-at
use Rattle.little_endian.proofs.f64_at.Reads as f64-at
use Rattle.little_endian.proofs.wide_at.Reads as wide_at
use Rattle.little_endian.proofs.put_u32.Reads as put-u32
use Rattle.little_endian.proofs.put_u64.Reads as put-u64
use Rattle.little_endian.proofs.put_f32.Reads as put-f32
use Rattle.little_endian.proofs.put_f64.Reads as put-f64

pub f32-of-determined : (κs : _) (a : _) → Determined (f32-of.Post κs a) (λ r x. r)
f32-of-determined κs a r r' x x' p q = p ∙ sym q

pub f64-of-determined : (κs : _) (a : _) → Determined (f64-of.Post κs a) (λ r x. r)
f64-of-determined κs a r r' x x' p q = p ∙ sym q

pub bits32-determined : (κs : _) (a : _) → Determined (bits32.Post κs a) (λ r x. r)
bits32-determined κs a r r' x x' p q = p ∙ sym q

pub bits64-determined : (κs : _) (a : _) → Determined (bits64.Post κs a) (λ r x. r)
bits64-determined κs a r r' x x' p q = p ∙ sym q

pub u32-at-determined : (κs : _) (a : _) → Determined (u32-at.Post κs a) (λ r x. r)
u32-at-determined κs a r r' x x' p q = p ∙ sym q

pub u64-at-determined : (κs : _) (a : _) → Determined (u64-at.Post κs a) (λ r x. r)
u64-at-determined κs a r r' x x' p q = p ∙ sym q

pub f32-at-determined : (κs : _) (a : _) → Determined (f32-at.Post κs a) (λ r x. r)
f32-at-determined κs a r r' x x' p q = p ∙ sym q

pub f64-at-determined : (κs : _) (a : _) → Determined (f64-at.Post κs a) (λ r x. r)
f64-at-determined κs a r r' x x' p q = p ∙ sym q

pub wide-at-determined : (κs : _) (a : _) → Determined (wide_at.Post κs a) (λ r x. r)
wide-at-determined κs a r r' x x' p q = p ∙ sym q

pub put-u32-determined : (κs : _) (a : _) → Determined (put-u32.Post κs a) (λ r x. x.0.now)
put-u32-determined κs a r r' x x' p q = p ∙ sym q

pub put-u64-determined : (κs : _) (a : _) → Determined (put-u64.Post κs a) (λ r x. x.0.now)
put-u64-determined κs a r r' x x' p q = p ∙ sym q

pub put-f32-determined : (κs : _) (a : _) → Determined (put-f32.Post κs a) (λ r x. x.0.now)
put-f32-determined κs a r r' x x' p q = p ∙ sym q

pub put-f64-determined : (κs : _) (a : _) → Determined (put-f64.Post κs a) (λ r x. x.0.now)
put-f64-determined κs a r r' x x' p q = p ∙ sym q
