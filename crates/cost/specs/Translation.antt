-- The plain values of accounts in Rust.
use Rattle.cost.specs.declared.account.Account.{Account as rAccount}
use Rattle.cost.specs.Accounts.{Account}

abbrev pub account : rAccount → Account
account a = record {
  tally = a.tally;
  work = a.work.items;
  here = a.here.items;
  ended = a.ended.items;
}
