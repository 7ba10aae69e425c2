use Rattle.race_checker.proofs.Scoping.{fits_placed}
use Rattle.race_checker.proofs.laws.scopes_stand_as_origins_say.Goals as goal

pub returns : goal.returns
returns c p g sound sc scope ls env fits = fits_placed p g sound.first ls env fits
