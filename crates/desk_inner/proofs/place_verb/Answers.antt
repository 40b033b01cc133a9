-- `desk_inner::place_verb` meets its contract.
use Rattle.desk_inner.proofs.place_verb.Goals as goal

pub returns-in-About : goal.returns-in-About
returns-in-About c = rw c.in-About.is c.place_about.ensures

pub returns-in-Both : goal.returns-in-Both
returns-in-Both c = rw c.in-Both.is c.place_both.ensures

pub returns-in-Many : goal.returns-in-Many
returns-in-Many c = rw c.in-Many.is c.place_many.ensures

pub returns-in-Stock : goal.returns-in-Stock
returns-in-Stock c = rw c.in-Stock.is c.place_stock.ensures

pub returns-in-Strip : goal.returns-in-Strip
returns-in-Strip c = rw c.in-Strip.is c.place_strip.ensures

pub returns-in-Sight : goal.returns-in-Sight
returns-in-Sight c = rw c.in-Sight.is c.place_sight.ensures

pub returns-in-First : goal.returns-in-First
returns-in-First c = rw c.in-First.is c.place_first.ensures

pub returns-in-After : goal.returns-in-After
returns-in-After c = rw c.in-After.is c.place_after.ensures

pub returns-in-Shade : goal.returns-in-Shade
returns-in-Shade c = rw c.in-Shade.is c.place_shade.ensures
